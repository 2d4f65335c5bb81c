-- `instructions::held::Held::stretch` meets its contract: the loop's invariant holds at the start and after each turn, and each way out follows from it.
use Rattle.std.proofs.Common.{◌≡◌, arith}
use Rattle.instructions.specs.StepsLaws.{reaches_start, reaches_more, reaches_stops, reaches_spent}
use Rattle.instructions.specs.declared.went.Went.{Went}
use Rattle.instructions.proofs.held.Held.stretch.Goals as goal

pub loop-left-init : goal.loop-left-init
loop-left-init c = reaches_start _ _ _ _ _ _ _

pub returns-in-Ok : goal.returns-in-Ok
returns-in-Ok c =
    reaches_stops _ _ _ _ _ _ _ _ _ _ _ c.loop-left.invariant c.in-Ok.went _ _ (omega arith) (omega arith) c.in-Ok.ensures

pub returns-in-Err : goal.returns-in-Err
returns-in-Err c =
    reaches_stops _ _ _ _ _ _ _ _ _ _ _ c.loop-left.invariant (Went.Faults c.in-Err.reason) _ _ (omega arith) (omega arith)
    c.in-Err.ensures

pub loop-left-preserved : goal.loop-left-preserved
loop-left-preserved c =
    let one = rw c.in-Ok-Moved.field-0-is at c.in-Ok-Moved.ensures in
    reaches_more _ _ _ _ _ _ _ _ _ _ _ c.loop-left.invariant _ _ _ (omega arith) one

pub returns : goal.returns
returns c =
    let spent : c.loop-left.left ≡ 0 = omega arith in
    reaches_spent _ _ _ _ _ _ _ _ _ _ (rw spent at c.loop-left.invariant)
