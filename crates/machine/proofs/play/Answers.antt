-- The trace of a node that was tested.
use Rattle.std.proofs.Common.{refl}
use Rattle.machine.proofs.Calls.{play_done}
use Rattle.machine.proofs.play.Goals as goal

pub returns-in-Ok : goal.returns-in-Ok
returns-in-Ok c =
    let a = c.args in
    let k = c.in-Ok.ensures.ok in
    play_done a.m a.g a.s a.memory.now refl k.3 a.trace.now (rw (k.0, k.1, k.2) at c.play_on.ensures)
