-- A step is a run of one.
use Rattle.std.proofs.Common.{ap, ◌∙◌}
use Rattle.model.specs.Events.{event}
use Rattle.machine.specs.BatchLaws.{outcome_of, step_steps}
use Rattle.machine.proofs.happen.happen.Goals as goal

pub returns-in-Step : goal.returns-in-Step
unfolding event
returns-in-Step c =
    let n = c.args.node.now in
    rw c.in-Step.is (ap outcome_of c.run-done.ensures ∙ step_steps n.map n.grid n.state c.args.memory.now)
