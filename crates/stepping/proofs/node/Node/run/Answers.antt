-- `stepping::node::Node::run` meets its contract: each turn of the loop, and its two ends, are laws of `Turning`.
use Rattle.std.proofs.Common.{rules, arith}
use Rattle.stepping.specs.Turning.{turning_spent, turning_idle, turning_on}
use Rattle.stepping.proofs.node.Node.run.Goals as goal

pub loop-left-preserved : goal.loop-left-preserved
loop-left-preserved c =
    let l = c.loop-left in
    let place = c.from-place.ensures in
    let ran = c.stretch-ran in
    record {
      memory_long = search rules;
      turning =
          turning_on _ _ _ _ _ l.memory l.t l.left l.answer l.invariant.turning (omega arith) (omega arith)
          ran.result ran.new.registers ran.new.memory (rw place at ran.ensures)
          c.perform-answer.result c.perform-answer.new.t (rw place at c.perform-answer.ensures);
    }

pub returns-else-t-ne0 : goal.returns-else-t-ne0
returns-else-t-ne0 c = turning_idle _ _ _ _ _ _ _ _ _ c.loop-left.invariant.turning (omega arith)

pub returns-after-loop-left : goal.returns-after-loop-left
returns-after-loop-left c = turning_spent _ _ _ _ _ _ _ _ _ c.loop-left.invariant.turning (omega arith)
