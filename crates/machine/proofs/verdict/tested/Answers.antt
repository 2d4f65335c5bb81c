-- What was tested is sound.
use Rattle.std.proofs.Common.{rules}
use Rattle.machine.proofs.Shape.{eight}
use Rattle.machine.proofs.Calls.{tested}
use Rattle.machine.proofs.verdict.tested.Goals as goal

pub invariant_of-result : goal.invariant_of-result
invariant_of-result c =
    let a = c.args in
    record { sound = tested a.map a.grid a.state a.memory.now c.node_verdict.ensures (search rules) (eight a.state _ c.well_formed.1.1.0) }
