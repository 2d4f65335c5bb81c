-- The records of the first p cells are laid.
use Rattle.model.specs.Sheet.{channel_records}
use Rattle.sheet.specs.Laid.{Laid}
use Rattle.sheet.proofs.writer.put_channels.Given as goal

abbrev pub invariant-loop-p : goal.invariant-loop-p
invariant-loop-p l = Laid l.at (channel_records l.g 0 l.p) l.initial.buffer l.next l.buffer
