-- What the definition reads from here, with the grid as it is now, stays what it reads from the cursor, and each turn leaves fewer bytes.
use Rattle.std.proofs.Common.{◌≡◌, ◌-◌, length, drop}
use Rattle.model.specs.Sheet.{channels_read}
use Rattle.sheet.proofs.channels.channels.Given as goal

abbrev pub invariant-loop-row : goal.invariant-loop-row
invariant-loop-row l = channels_read l.at l.c.map l.p l.g (drop l.at l.s) ≡ channels_read l.initial.at l.c.map 0 l.initial.g (drop l.initial.at l.s)

abbrev pub decreases-loop-row : goal.decreases-loop-row
decreases-loop-row l = length l.s - l.at
