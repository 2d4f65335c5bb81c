-- `export::state::state_of` meets its contract. Each exit is a law of the definition; `==` of the two blocks is the definition's test.
use Rattle.std.proofs.Common.{rules, ◌∙◌}
use Rattle.export.specs.WordsLaws.{alike_pointwise}
use Rattle.export.specs.StateLaws.{state_same, state_other}
use Rattle.export.proofs.state.state_of.Goals as goal

pub returns-then-eq : goal.returns-then-eq
returns-then-eq c =
    state_same c.args.words.now c.unpacked-s.ensures c.packed.ensures
    (c.eq.ensures ∙ alike_pointwise _ _ 121 (search rules) (search rules)) c.if-eq.true

pub returns-else-eq : goal.returns-else-eq
returns-else-eq c =
    state_other c.args.words.now c.unpacked-s.ensures c.packed.ensures
    (c.eq.ensures ∙ alike_pointwise _ _ 121 (search rules) (search rules)) c.if-eq.false
