use Rattle.std.proofs.Common.{rules, arith}
use Rattle.trips.specs.BackLaws.{wrote_fits, reads_back}
use Rattle.trips.proofs.Shape.{shaped}
use Rattle.trips.proofs.write_read.Goals as goal

pub slice_bounds-read-end : goal.slice_bounds-read-end
slice_bounds-read-end c = omega (arith, wrote_fits c.args.m c.args.g c.args.buffer.now c.write.ensures)

pub slice_bounds-read-end-2 : goal.slice_bounds-read-end-2
slice_bounds-read-end-2 c =
    let fits = wrote_fits c.args.m c.args.g c.args.buffer.now c.write.ensures in
    search (rules, fits)

pub returns : goal.returns
returns c =
    reads_back c.args.m c.args.g c.args.buffer.now c.write.ensures (shaped _ _ _ _ c.well_formed.0 c.well_formed.1.0)
    (rw c.unwrap_or-n.ensures at c.read.ensures)
