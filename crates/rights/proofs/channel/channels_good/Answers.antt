-- `rights::channel::channels_good` meets its contract: the loop's invariant holds at the start and after each turn, and each way out follows from it.
use Prim.Native.Nat.{◌*◌, ◌-◌}
use mathlib.Core.Path.{refl, sym, ◌∙◌, ap}
use mathlib.Core.Bool.{not}
use native.Mathlib.Nat.{sub-zero}
use native.Mathlib.Omega.{arith}
use Rattle.model.specs.Map.{most}
use Rattle.model.specs.Refusals.{channels_good}
use Rattle.model.proofs.LoopLaws.{fewer, passed}
use Rattle.model.proofs.TestLaws.{and_pass, and_stop}
use Rattle.rights.proofs.Turns.{channels_turn}
use Rattle.rights.proofs.channel.channels_good.Goals as goal

pub loop-p-init : goal.loop-p-init
loop-p-init c = (omega arith, rw sub-zero)

pub returns-then-g-row : goal.returns-then-g-row
returns-then-g-row c =
    let l = c.loop-p in
    sym (channels_turn _ _ l.p (most * most - l.p) (omega arith)
    ∙ and_stop _ refl (ap not (rw c.is_channel.ensures at c.if-g-row.true))) ∙ l.invariant.1

pub loop-p-preserved : goal.loop-p-preserved
loop-p-preserved c =
    let l = c.loop-p in (
      omega arith,
      sym (channels_turn _ _ l.p (most * most - l.p) (omega arith)
          ∙ and_pass _ refl (ap not (rw c.is_channel.ensures at c.if-g-row.false))
          ∙ rw fewer) ∙ l.invariant.1,
    )

pub returns : goal.returns
unfolding channels_good
returns c = passed (channels_good _ _ _) c.loop-p.invariant.1 c.loop-p-test.false
