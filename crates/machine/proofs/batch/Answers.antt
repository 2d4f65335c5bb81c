-- The steps of a node that was tested, counted.
use Rattle.std.proofs.Common.{refl}
use Rattle.machine.proofs.Calls.{batch_left, batch_done}
use Rattle.machine.proofs.batch.Goals as goal

pub overflow_sub-result : goal.overflow_sub-result
overflow_sub-result c =
    let a = c.args in
    let k = c.in-Ok.ensures.ok in
    batch_left a.m a.g a.s a.memory.now refl k.3 a.limit (rw (k.0, k.1, k.2) at c.run-done.ensures)

pub returns-in-Ok : goal.returns-in-Ok
returns-in-Ok c =
    let a = c.args in
    let k = c.in-Ok.ensures.ok in
    batch_done a.m a.g a.s a.memory.now refl k.3 a.limit (rw (k.0, k.1, k.2) at c.run-done.ensures) refl c.ending.ensures
