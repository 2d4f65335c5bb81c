-- The writer's three cases: refused, too long for the buffer, and written.
-- Assumes nothing.
use Rattle.std.specs.Prelude.{ℕ, ◌+◌, ◌*◌, ◌≤◌, ◌<◌, ◌≡◌, List, length, Ok, Err}
use Rattle.std.proofs.Math.Nat.{zero-add}
use Rattle.std.proofs.Common.{arith}
use borrow.Author.Tests.{le-leb, lt-leb}
use Rattle.model.specs.Map.{Grid}
use Rattle.model.specs.Refusals.{accepts}
use Rattle.model.specs.Sheet.{sheet_bytes}
use Rattle.model.specs.Calls.{left, writer}
use Rattle.model.proofs.TestLaws.{then_pass, then_stop}
use Rattle.model.specs.GridLaws.{channel_count}
use Rattle.model.proofs.SheetLaws.{sheet_length}
use Rattle.model.specs.declared.map.Map.{Map}
use Rattle.model.specs.declared.refusal.Refusal.{Refusal}
use Rattle.sheet.specs.Laid.{Laid}
use Rattle.sheet.specs.LaidLaws.{laid_front}

module _ (m : Map) (g : Grid) (b : List ℕ) where
  pub writer_refused : {r : Refusal} → accepts m g ≡ Err r → left (Err r) b ≡ writer m g b
  unfolding writer
  writer_refused e = rw (then_stop _ e)

  pub writer_long :
      accepts m g ≡ Ok tt → length b < 15 + 21 * m.count + 3 * channel_count g
      → left (Err Refusal.Buffer) b ≡ writer m g b
  unfolding writer
  writer_long e h = rw (then_pass _ e, lt-leb (length (sheet_bytes m g)) (length b) (omega (arith, sheet_length m g)))

  pub writer_wrote :
      {n : ℕ} {after : List ℕ} → accepts m g ≡ Ok tt → 15 + 21 * m.count + 3 * channel_count g ≤ length b
      → Laid 0 (sheet_bytes m g) b n after → left (Ok n) after ≡ writer m g b
  unfolding writer
  writer_wrote e h l =
      rw (
        then_pass _ e,
        le-leb (length (sheet_bytes m g)) (length b) (omega (arith, sheet_length m g)),
        l.past,
        l.same,
        zero-add,
        laid_front,
      )
