-- The domains from i on decide as all do.
use Rattle.std.proofs.Common.{◌≡◌, ◌-◌}
use Rattle.model.specs.Refusals.{domains_verdict}
use Rattle.rights.proofs.domain.domains_verdict.Given as goal

abbrev pub invariant-loop-i : goal.invariant-loop-i
invariant-loop-i l = domains_verdict l.m l.i (l.m.count - l.i) ≡ domains_verdict l.m 0 l.m.count
