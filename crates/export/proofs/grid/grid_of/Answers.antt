-- `export::grid::grid_of` meets its contract. Each row is read of its eight bytes.
use Rattle.std.proofs.Common.{ℕ, [], ◌≡◌, ◌/◌, length, get_or, rules}
use Rattle.export.specs.MapWords.{row_at, grid_of}
use Rattle.export.specs.BlockLaws.{rows_cut}
use Rattle.export.specs.WordsLaws.{eight_made}
use Rattle.export.proofs.grid.grid_of.Goals as goal

pub returns : goal.returns
unfolding grid_of
returns c =
    let b = c.args.bytes.now in
    let read = λ (f : ℕ). row_at (get_or c.as_chunks.result.0.now f []) 0 in
    let rows = eight_made read (λ f y q l k. (search rules, search rules)) [] c.from_fn.ensures.items in
    let count : length b / 8 ≡ 8 = search rules in
    rw (rows, c.as_chunks.ensures.front, count) (rows_cut b)
