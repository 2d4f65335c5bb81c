-- `export::grid::grid_bytes` meets its contract. Eight rows of bytes, one after the other, are the block.
use Rattle.std.proofs.Common.{ℕ, [], get_or, rules}
use Rattle.export.specs.MapWords.{row_bytes, grid_bytes}
use Rattle.export.specs.WordsLaws.{eight_made, eight_laid}
use Rattle.export.proofs.grid.grid_bytes.Goals as goal

pub returns : goal.returns
unfolding grid_bytes
returns c =
    let bytes = λ (f : ℕ). row_bytes (get_or c.args.g f []) in
    let rows = eight_made bytes (λ f y q l k. (search rules, search rules)) [] c.from_fn-rows.ensures.items in
    eight_laid bytes rows c.as_flattened.ensures.value c.copy_from_slice.ensures.after
