-- What the sheet's reader and the view's companion call tell of what is printed.
--     laid_out                                    a text that is put from the buffer's front on
--     told_refused, told_accepted, told_long      whether the memory is as long as the map says
--     printed_refused, printed_whole, whole_accepted      what was read of a sheet
-- Assumes nothing.
use Rattle.std.specs.Prelude.{ℕ, ◌≡◌, refl, List, length, Ok, Err}
use Rattle.std.proofs.Common.{sym, ◌∙◌, arith}
use Rattle.std.proofs.Math.Path.{ap}
use Rattle.std.proofs.Math.Bool.{true}
use borrow.Author.Tests.{eqb-true, le-leb}
use Rattle.model.specs.Map.{Grid, is_domain}
use Rattle.model.specs.RecordLaws.{Octets}
use Rattle.model.specs.Refusals.{◌▸◌, accepts}
use Rattle.model.proofs.RefusalsLaws.{check_true, acceptable}
use Rattle.model.specs.Sheet.{Found, sheet_read}
use Rattle.model.specs.Calls.{left, as_long, lent_verdict, reported, reader}
use Rattle.model.specs.Program.{prints, refusal_line, refusal_at_line, unless_refused, of_trace, of_sheet, transcript, shown}
use Rattle.model.specs.declared.map.Map.{Map}
use Rattle.model.specs.declared.refusal.Refusal.{Refusal}
use Rattle.model.specs.Answers.{Verdict, Reading, refused_at}
use Rattle.model.specs.declared.call.Sheet.{Sheet}
use Rattle.promises.specs.Sheets.{write_after_read}
use Rattle.lines.specs.Puts.{Place, puts}
use Rattle.lines.specs.PutsLaws.{puts_laid}
use Rattle.lines.specs.Telling.{of_map}

pub laid_out :
    (text memory buffer : List ℕ) {y : Place} → y ≡ puts (left 0 buffer) text → left y memory ≡ shown (prints text memory) buffer
laid_out text memory buffer e = ap (λ p. left p memory) (e ∙ puts_laid buffer text)

then_accepted : (v : Verdict) → v ▸ Ok tt ≡ v
then_accepted (Ok tt) = refl
then_accepted (Err r) = refl

module _ (m : Map) (g : Grid) (a : accepts m g ≡ Ok tt) (memory : List ℕ) where
  -- an accepted map has a domain 1
  first_domain : lent_verdict m g memory 1 ≡ as_long m memory
  unfolding lent_verdict
  first_domain =
      let some : is_domain m.count 1 ≡ true = le-leb 1 m.count (acceptable m g a).some in
      rw (a, some) (then_accepted (as_long m memory))

  module _ {v : Verdict} (q : v ≡ lent_verdict m g memory 1) where
    pub told_refused :
        (r : Refusal) (bytes : List ℕ) → v ≡ Err r → of_map m g memory bytes ≡ prints (refusal_line r) memory
    told_refused r bytes f = ap (λ w. unless_refused w memory (of_trace m g memory bytes)) (sym first_domain ∙ sym q ∙ f)

    pub told_long : v ≡ Ok tt → length memory ≡ m.length
    told_long f = eqb-true (length memory) m.length (check_true _ Refusal.Memory (sym first_domain ∙ sym q ∙ f))

    pub told_accepted : (bytes : List ℕ) → v ≡ Ok tt → of_map m g memory bytes ≡ of_trace m g memory bytes
    told_accepted bytes f = ap (λ w. unless_refused w memory (of_trace m g memory bytes)) (sym first_domain ∙ sym q ∙ f)

-- what the reader found, from what it returned
abbrev refused_of : Reading → Found
refused_of (Ok tt) = Found.refused Refusal.Short 0
refused_of (Err f) = Found.refused f.refusal f.at

of_refused :
    (f : Found) {x : Sheet} {h : Grid} {r : Refusal} {at : ℕ} → left x h ≡ reported f → x.reading ≡ Err (refused_at r at)
    → f ≡ Found.refused r at
of_refused (Found.whole m g) {r = r} {at = at} q w =
    let c : Ok tt ≡ Err (refused_at r at) = sym (ap (λ l. l.value.reading) q) ∙ w in
    let z : ◌≡◌ {A = ℕ} 0 1 = cc in
    absurd (omega arith)
of_refused (Found.refused r' at') q w = ap refused_of (sym (ap (λ l. l.value.reading) q) ∙ w)

of_whole : (f : Found) {x : Sheet} {h : Grid} → left x h ≡ reported f → x.reading ≡ Ok tt → f ≡ Found.whole x.map h
of_whole (Found.whole m g) q w = ap (λ l. Found.whole l.value.map l.lent) (sym q)
of_whole (Found.refused r at) q w =
    let c : Err (refused_at r at) ≡ Ok tt = sym (ap (λ l. l.value.reading) q) ∙ w in
    let z : ◌≡◌ {A = ℕ} 0 1 = cc in
    absurd (omega arith)

module _ (s : List ℕ) {x : Sheet} {h : Grid} (q : left x h ≡ reader s) where
  pub printed_refused :
      (memory bytes : List ℕ) (r : Refusal) (at : ℕ) → x.reading ≡ Err (refused_at r at)
      → transcript s memory bytes ≡ prints (refusal_at_line r at) memory
  unfolding reader transcript
  printed_refused memory bytes r at w = ap (λ f. of_sheet f memory bytes) (of_refused (sheet_read s) q w)

  module _ (w : x.reading ≡ Ok tt) where
    pub printed_whole : (memory bytes : List ℕ) → transcript s memory bytes ≡ of_map x.map h memory bytes
    unfolding reader transcript
    printed_whole memory bytes = ap (λ f. of_sheet f memory bytes) (of_whole (sheet_read s) q w)

    pub whole_accepted : Octets s → accepts x.map h ≡ Ok tt
    unfolding reader
    whole_accepted o = (write_after_read s x.map h o (of_whole (sheet_read s) q w)).1
