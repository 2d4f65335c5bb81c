-- Demand 2, "A sheet that is written reads back as the same map, one that is read writes back as the same bytes", of the two calls: by their
-- contracts `writer m g buffer` and `reader s` are what they return with what they leave in what they were lent.
--     written_reads     what the writer has set reads as the map and the grid that were written
--     read_writes       what was read whole is written as the bytes that were read, and the rest of the buffer is left
--     written_length    the number that the writer returns is 15 + 21N + 3G
-- Assumes nothing.
use Rattle.std.specs.Prelude.{ℕ, ◌+◌, ◌*◌, ◌≤◌, ◌≡◌, refl, List, ◌++◌, leb, length, take, drop, Ok, Err}
use Rattle.std.proofs.Common.{sym, ◌∙◌, arith, leb-true, le-leb}
use Rattle.std.proofs.Math.Seq.{take_at}
use Rattle.model.specs.Map.{Grid}
use Rattle.model.specs.Refusals.{check, ◌▸◌, accepts}
use Rattle.model.proofs.RefusalsLaws.{check_true, then_left, then_right}
use Rattle.model.proofs.TestLaws.{then_pass}
use Rattle.model.specs.Sheet.{Found, sheet_bytes, sheet_read}
use Rattle.model.proofs.SheetLaws.{sheet_length}
use Rattle.model.specs.GridLaws.{Shaped, channel_count}
use Rattle.model.specs.RecordLaws.{Octets}
use Rattle.model.specs.Calls.{left, reader, written, writer}
use Rattle.model.specs.declared.map.Map.{Map}
use Rattle.model.specs.declared.refusal.Refusal.{Refusal}
use Rattle.model.specs.Answers.{Verdict, refused_at}
use Rattle.promises.specs.Sheets.{read_after_write, write_after_read}

-- the writer writes exactly if it accepts, and then the whole sheet
wrote :
    (v : Verdict) (s buffer : List ℕ) (n : ℕ) → (written v s buffer).value ≡ Ok n
    → (v ≡ Ok tt) × (n ≡ length s)
wrote (Ok tt) s buffer n e = (refl, cc)
wrote (Err r) s buffer n e = ((cc), (cc))

module _ (m : Map) (g : Grid) (buffer : List ℕ) (n : ℕ) (w : (writer m g buffer).value ≡ Ok n) where
  abbrev bytes : List ℕ
  bytes = sheet_bytes m g

  abbrev fits : Verdict
  fits = check (leb (length bytes) (length buffer)) Refusal.Buffer

  told : (accepts m g ▸ fits ≡ Ok tt) × (n ≡ length bytes)
  unfolding writer
  told = wrote (accepts m g ▸ fits) bytes buffer n w

  pub written_acceptable : accepts m g ≡ Ok tt
  written_acceptable = then_left (accepts m g) fits told.0

  pub written_length : n ≡ 15 + 21 * m.count + 3 * channel_count g
  written_length = told.1 ∙ sheet_length m g

  pub written_fits : n ≤ length buffer
  written_fits =
      rw told.1
      (leb-true (length bytes) (length buffer)
      (check_true (leb (length bytes) (length buffer)) Refusal.Buffer (then_right (accepts m g) fits told.0)))

  pub written_reads : Shaped m g → reader (take n (writer m g buffer).lent) ≡ left (record { reading = Ok tt; map = m }) g
  unfolding writer reader
  written_reads s =
      rw (told.0, take_at bytes (drop (length bytes) buffer) n (sym told.1), read_after_write m g s written_acceptable)

whole_or_refused :
    {A : Type 0} (f : Found) → ((m : Map) (g : Grid) → f ≡ Found.whole m g → A)
    → ((r : Refusal) (at : ℕ) → f ≡ Found.refused r at → A) → A
whole_or_refused (Found.whole m g) a b = a m g refl
whole_or_refused (Found.refused r at) a b = b r at refl

pub read_writes :
    (s buffer : List ℕ) → Octets s → (reader s).value.reading ≡ Ok tt → length s ≤ length buffer
    → writer (reader s).value.map (reader s).lent buffer ≡ left (Ok (length s)) (s ++ drop (length s) buffer)
unfolding reader writer
read_writes s buffer o e h =
    whole_or_refused (sheet_read s)
    (λ m g f.
    let k = write_after_read s m g o f in
    rw (f, then_pass _ k.1, k.2, le-leb (length s) (length buffer) h))
    (λ r at f.
    let c : Err (refused_at r at) ≡ Ok tt = rw f at e in
    let z : ◌≡◌ {A = ℕ} 0 1 = cc in
    absurd (omega arith))
