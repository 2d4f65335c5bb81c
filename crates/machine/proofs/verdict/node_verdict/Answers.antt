-- An acceptable map has at most eight domains.
use Rattle.std.proofs.Common.{rules}
use Rattle.model.proofs.RefusalsLaws.{acceptable}
use Rattle.machine.proofs.verdict.node_verdict.Goals as goal

pub invariant_of-well_formed : goal.invariant_of-well_formed
invariant_of-well_formed c = record { few = (acceptable c.args.m c.args.g (search rules)).few }
