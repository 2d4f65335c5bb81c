-- `states::start::start` meets its contract. The loop's invariant: the domains that are left, put into the contexts as they are, come to
-- what all of them come to.
use Rattle.std.proofs.Common.{◌≡◌, ◌-◌, replicate, length}
use Rattle.model.specs.Map.{most}
use Rattle.model.specs.States.{blank, seated}
use Rattle.states.proofs.start.start.Given as goal

abbrev pub invariant-loop-i : goal.invariant-loop-i
invariant-loop-i l = record {
  whole : length l.contexts ≡ most;
  left : seated l.contexts l.fn.m l.i (l.fn.m.count - l.i) ≡ seated (replicate most blank) l.fn.m 0 l.fn.m.count;
}
