-- n is the number of marks in the first p cells.
use Rattle.std.proofs.Common.{◌≡◌, ◌≤◌}
use Rattle.model.specs.GridLaws.{marks}
use Rattle.sheet.proofs.writer.channel_count.Given as goal

abbrev pub invariant-loop-p : goal.invariant-loop-p
invariant-loop-p l = (l.n ≤ l.p) × (l.n ≡ marks l.g 0 l.p)
