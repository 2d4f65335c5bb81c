use Rattle.std.proofs.Common.{ap}
use Rattle.model.specs.Calls.{reported, reader}
use Rattle.sheet.proofs.read.Goals as goal

pub returns-in-Ok : goal.returns-in-Ok
unfolding reader
returns-in-Ok c = ap reported c.in-Ok.ensures

pub returns-in-Err : goal.returns-in-Err
unfolding reader
returns-in-Err c = rw c.refusal.ensures (ap reported c.in-Err.ensures)
