use Rattle.std.proofs.Common.{arith, ◌*◌, zero-add}
use Rattle.model.specs.Map.{most}
use Rattle.model.specs.Sheet.{channel_records}
use Rattle.sheet.specs.LaidLaws.{laid_none, laid_then}
use Rattle.sheet.specs.RunLaws.{channels_split, channel_room}
use Rattle.sheet.proofs.writer.put_channels.Goals as goal
use Rattle.sheet.proofs.writer.put_channels.Goals.{then-g-row, else-g-row}

pub loop-p-init : goal.loop-p-init
unfolding channel_records
loop-p-init c = laid_none c.args.at c.args.buffer.now

pub lay-next-requires : goal.lay-next-requires
lay-next-requires c =
    omega (arith, c.loop-p.invariant.past, channel_room c.args.g c.loop-p.p (most * most) c.if-g-row.true (omega arith))

pub loop-p-preserved : goal.loop-p-preserved
unfolding channel_records
loop-p-preserved c =
    elim c.if-g-row.branch [
      | then-g-row w ↦ rw (w.buffer-is, w.next-is, channels_split, zero-add, w.if-g-row.true) (laid_then c.loop-p.invariant w.lay-next.ensures)
      | else-g-row w ↦ rw (w.buffer-is, w.next-is, channels_split, zero-add, w.if-g-row.false) (laid_then c.loop-p.invariant (laid_none _ _))
    ]
