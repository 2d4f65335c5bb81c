-- `rights::channel::channels_good` meets its contract. The loop's invariant: the cells from p on decide as all do.
use Prim.Native.Nat.{◌*◌, ◌-◌, ◌≤◌}
use mathlib.Core.Path.{◌≡◌}
use Rattle.model.specs.Map.{most}
use Rattle.model.specs.Refusals.{channels_good}
use Rattle.rights.proofs.channel.channels_good.Given as goal

abbrev pub invariant-loop-p : goal.invariant-loop-p
invariant-loop-p l = (l.p ≤ most * most) × (channels_good l.count l.g l.p (most * most - l.p) ≡ channels_good l.count l.g 0 (most * most))
