-- `export::map::map_words` meets its contract. The head and eight domains, one after the other, are the block.
use Rattle.std.proofs.Common.{ℕ, [], rules}
use Rattle.std.proofs.lemmas.List.{append-nil}
use Rattle.model.specs.Map.{nth}
use Rattle.export.specs.MapWords.{domain_words, map_words}
use Rattle.export.specs.WordsLaws.{eight_made, eight_laid}
use Rattle.export.proofs.map.map_words.Goals as goal

pub returns : goal.returns
unfolding map_words
returns c =
    let words = λ (i : ℕ). domain_words (nth c.args.m i) in
    let domains = eight_made words (λ i y q l k. (search rules, search rules)) [] c.from_fn-domains.ensures.items in
    let laid = eight_laid words domains c.as_flattened.ensures.value c.copy_from_slice-2.ensures.after in
    rw (c.copy_from_slice.ensures.after, laid, c.from.ensures) (append-nil _)
