-- `export::state::packed` meets its contract. Active and eight contexts, one after the other, are the block.
use Rattle.std.proofs.Common.{ℕ, [], get_or, rules}
use Rattle.std.proofs.lemmas.List.{append-nil}
use Rattle.model.specs.States.{missing}
use Rattle.export.specs.StateWords.{context_words, packed}
use Rattle.export.specs.WordsLaws.{eight_made, eight_laid}
use Rattle.export.proofs.state.packed.Goals as goal

pub returns : goal.returns
unfolding packed
returns c =
    let words = λ (i : ℕ). context_words (get_or c.args.s.contexts i missing) in
    let contexts = eight_made words (λ i y q l k. (search rules, search rules)) [] c.from_fn-contexts.ensures.items in
    let laid = eight_laid words contexts c.as_flattened.ensures.value c.copy_from_slice.ensures.after in
    rw (laid, c.from.ensures) (append-nil _)
