-- `trips::read_write` meets its contract. The bytes that were read are the sheet of what was found.
use native.Mathlib.Omega.{arith}
use Rattle.trips.specs.BackLaws.{writes_back}
use Rattle.trips.proofs.read_write.Goals as goal

pub returns : goal.returns
returns c =
    let a = c.args in
    writes_back a.s.now a.buffer.now (λ i. omega (arith, c.type_inv.s i)) c.read-sheet.ensures
    c.write.ensures
