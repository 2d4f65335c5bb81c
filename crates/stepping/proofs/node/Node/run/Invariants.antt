-- `stepping::node::Node::run` meets its contract. The loop's invariant is `Turning`: the steps from the state that it has come to are those
-- from the start. The measure: every stretch takes a step at least.
use Rattle.std.proofs.Common.{◌≡◌, length}
use Rattle.stepping.specs.Turning.{Turning}
use Rattle.stepping.proofs.node.Node.run.Given as goal

abbrev pub invariant-loop-left : goal.invariant-loop-left
invariant-loop-left l = record {
  memory_long : length l.memory ≡ length l.initial.memory;
  turning : Turning l.fn.self.map l.fn.self.grid l.initial.t l.initial.memory l.limit l.memory l.t l.left l.answer;
}

abbrev pub decreases-loop-left : goal.decreases-loop-left
decreases-loop-left l = l.left
