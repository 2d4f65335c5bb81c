-- `states::switch::first_ready` meets its contract. The loop's invariant: those that are left after `at` decide as all that come after d.
use Rattle.std.proofs.Common.{◌≡◌, ◌-◌}
use Rattle.model.specs.States.{first_ready}
use Rattle.states.proofs.switch.first_ready.Given as goal

abbrev pub invariant-loop : goal.invariant-loop
invariant-loop l = first_ready l.count.n l.s (l.count.n - l.counter) l.at ≡ first_ready l.count.n l.s l.count.n l.d
