-- The contracts of the two calls, joined with the laws of the definitions. w and after are what `sheet::write` has returned and
-- left, x and h what `sheet::read` has.
-- Assumes nothing.
use Rattle.std.specs.Prelude.{ℕ, ◌≤◌, ◌≡◌, List, length, take, Ok, Err}
use Rattle.std.specs.Result.{result_unwrap_or}
use Rattle.std.proofs.Common.{sym, ap, ◌∙◌, arith}
use Rattle.model.specs.Map.{Grid}
use Rattle.model.specs.GridLaws.{Shaped}
use Rattle.model.specs.RecordLaws.{Octets}
use Rattle.model.specs.Calls.{Left, left, reader, writer}
use Rattle.model.specs.declared.map.Map.{Map}
use Rattle.model.specs.declared.refusal.Refusal.{Refusal}
use Rattle.model.specs.declared.call.Sheet.{Sheet}
use Rattle.model.specs.Answers.{Writing}
use Rattle.promises.specs.Trips.{written_fits, written_reads, read_writes}
use Rattle.trips.specs.Back.{ReadsBack, WritesBack}

module _ (m : Map) (g : Grid) (buffer : List ℕ) {w : Writing} {after : List ℕ} (e : left w after ≡ writer m g buffer) where
  value : (writer m g buffer).value ≡ w
  value = ap (λ (x : Left Writing (List ℕ)). x.value) (sym e)

  fits : (v : Writing) → (writer m g buffer).value ≡ v → result_unwrap_or v 0 ≤ length buffer
  fits (Ok n) f = written_fits m g buffer n f
  fits (Err r) f = omega arith

  pub wrote_fits : result_unwrap_or w 0 ≤ length buffer
  wrote_fits = fits w value

  pub reads_back :
      {x : Sheet} {h : Grid} → Shaped m g → left x h ≡ reader (take (result_unwrap_or w 0) after) → ReadsBack m g buffer x h
  reads_back s r n f =
      let k : result_unwrap_or w 0 ≡ n = ap (λ (v : Writing). result_unwrap_or v 0) (sym value ∙ f) in
      r ∙ ap (λ (x : Left Writing (List ℕ)). reader (take (result_unwrap_or w 0) x.lent)) e
      ∙ rw k (written_reads m g buffer n f s)

  -- a writer that refuses leaves nothing to read back
  pub nothing_written : {r : Refusal} {x : Sheet} {h : Grid} → w ≡ Err r → ReadsBack m g buffer x h
  nothing_written {r} f n i =
      let c : ◌≡◌ {A = Writing} (Err r) (Ok n) = sym (value ∙ f) ∙ i in
      let z : ◌≡◌ {A = ℕ} 0 1 = cc in
      absurd (omega arith)

pub writes_back :
    (s buffer : List ℕ) {after : List ℕ} {x : Sheet} {h : Grid} {w : Writing} → Octets s → left x h ≡ reader s
    → left w after ≡ writer x.map h buffer → WritesBack s buffer w after
writes_back s buffer o r e f l =
    e ∙ ap (λ (y : Left Sheet Grid). writer y.value.map y.lent buffer) r ∙ read_writes s buffer o f l
