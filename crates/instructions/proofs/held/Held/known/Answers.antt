-- `instructions::held::Held::known` meets its contract. Each exit is one of the plan's; the last is the effect, which `work` tells.
use Rattle.std.proofs.Common.{refl, ◌∙◌, le-leb}
use Rattle.std.proofs.lemmas.Bool.{lt-leb}
use Rattle.instructions.specs.OneLaws.{plan_told}
use Rattle.instructions.proofs.held.Held.known.Goals as goal

pub returns-in_default : goal.returns-in_default
returns-in_default c =
    (λ x b. plan_told _ _ _ _ _ _ c.requires.0 c.requires.1 ∙ rw (← c.in_default.ensures), refl)

pub returns-then-end-counter : goal.returns-then-end-counter
returns-then-end-counter c =
    rw c.from.ensures (
      λ x b.
          plan_told _ _ _ _ _ _ c.requires.0 c.requires.1 ∙ rw (← c.in-Some.ensures, le-leb _ _ c.if-end-counter.true),
      refl,
    )

pub returns-in-Some-no_register : goal.returns-in-Some-no_register
returns-in-Some-no_register c = (
  λ x b.
      plan_told _ _ _ _ _ _ c.requires.0 c.requires.1
      ∙ rw (← c.in-Some.ensures, lt-leb _ _ c.if-end-counter.false, ← c.peek-body.ensures, ← c.in-Some-no_register.ensures),
  refl,
)

pub returns : goal.returns
returns c =
    let w = c.work.ensures c.args.counter in (
      λ x b.
          plan_told _ _ _ _ _ _ c.requires.0 c.requires.1
          ∙ rw (← c.in-Some.ensures, lt-leb _ _ c.if-end-counter.false, ← c.peek-body.ensures, ← c.in_default-no_register.ensures)
          (w.0 x b),
      w.1,
    )
