-- `export::state::unpacked` meets its contract. Each context is read of its fifteen words.
use Rattle.std.proofs.Common.{ℕ, [], ◌≡◌, ◌/◌, length, take, drop, get_or, rules}
use Rattle.model.specs.States.{missing}
use Rattle.export.specs.StateWords.{context_from, unpacked}
use Rattle.export.specs.BlockLaws.{contexts_cut}
use Rattle.export.specs.WordsLaws.{eight_made}
use Rattle.export.proofs.state.unpacked.Goals as goal

pub returns : goal.returns
unfolding unpacked
returns c =
    let w = c.args.words.now in
    let read = λ (i : ℕ). context_from (get_or c.as_chunks.result.0.now i []) 0 in
    let contexts = eight_made read (λ i y q l k. (search rules, search rules)) missing c.from_fn.ensures.items in
    let count : length (take 120 (drop 1 w)) / 15 ≡ 8 = search rules in
    rw (contexts, c.as_chunks.ensures.front, count, contexts_cut w)
