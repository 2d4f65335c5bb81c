use Rattle.std.proofs.Common.{arith, length-append, ap, length}
use Rattle.model.specs.Sheet.{sheet_bytes}
use Rattle.model.proofs.SheetLaws.{sheet_length}
use Rattle.sheet.specs.LaidLaws.{laid_then}
use Rattle.sheet.proofs.writer.put_sheet.Goals as goal

pub put_channels-at_five-requires : goal.put_channels-at_five-requires
unfolding sheet_bytes
put_channels-at_five-requires c =
    omega (arith, ap length c.head.ensures, simp length-append at (sheet_length c.args.m c.args.g))

pub put_end-requires : goal.put_end-requires
unfolding sheet_bytes
put_end-requires c = omega (arith, ap length c.head.ensures, simp length-append at (sheet_length c.args.m c.args.g))

pub returns : goal.returns
unfolding sheet_bytes
returns c =
    laid_then (laid_then (rw c.head.ensures at c.lay-at_domains.ensures) c.put_domains-at_channels.ensures)
    (laid_then c.put_channels-at_five.ensures c.put_end.ensures)
