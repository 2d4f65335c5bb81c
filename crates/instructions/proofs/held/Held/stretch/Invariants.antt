-- `instructions::held::Held::stretch` meets its contract. The loop's invariant: the steps from where it began are those from where it
-- has come to.
use Rattle.instructions.specs.StepsLaws.{Reaches}
use Rattle.instructions.proofs.held.Held.stretch.Given as goal

abbrev pub invariant-loop-left : goal.invariant-loop-left
invariant-loop-left l =
    Reaches l.self.own l.self.count.n l.self.row l.initial.registers l.counter l.initial.memory l.limit l.registers l.at l.memory l.left
