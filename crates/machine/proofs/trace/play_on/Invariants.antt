-- The rest, played from where it has come to, is the whole, and the state is sound there. The measure is how many bytes are left.
use Rattle.std.proofs.Common.{◌≡◌, ◌-◌, ◌≤◌, length}
use Rattle.model.specs.SoundLaws.{Sound}
use Rattle.machine.specs.Playing.{plays}
use Rattle.machine.proofs.trace.play_on.Given as goal

abbrev pub invariant-loop-at : goal.invariant-loop-at
invariant-loop-at l =
    (length l.memory ≡ length l.initial.memory) × Sound l.map.count l.state × (l.events ≤ l.at)
    × (plays l.map l.grid l.trace l.at l.events l.state l.memory ≡ plays l.map l.grid l.trace 0 0 l.initial.state l.initial.memory)

abbrev pub decreases-loop-at : goal.decreases-loop-at
decreases-loop-at l = length l.trace - l.at
