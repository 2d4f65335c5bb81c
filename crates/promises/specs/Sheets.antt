-- Document 01, "The sheet": writing and reading undo each other, and how long a sheet is.
--     read_after_write      an acceptable map and grid come back whole
--     write_after_read      bytes that read whole are the sheet of what they read as, and that is acceptable
--     sheet_bounds          a sheet has 36 to 351 bytes, by sheet_length of SheetLaws: 15 + 21N + 3G
-- Assumes nothing.
use Rattle.std.specs.Prelude.{ℕ, suc, ◌≤◌, ◌<◌, ◌≡◌, refl, true, leb, length, get_or, take, drop, Ok}
use Rattle.std.proofs.Common.{sym, ◌∙◌, arith, leb-true, le-leb}
use Rattle.std.proofs.Math.Path.{ap}
use mathlib.Core.List.{List, ◌++◌}
use Rattle.std.proofs.lemmas.List.{get_or-replicate}
use Rattle.model.specs.Basics.{bytes, number}
use Rattle.model.proofs.BasicsLaws.{and_left, and_right, and_both, number_bytes}
use Rattle.model.specs.Map.{most, absent, Grid}
use Rattle.model.specs.Refusals.{check, sized, within, accepts}
use Rattle.model.specs.RefusalsLaws.{Acceptable}
use Rattle.model.proofs.RefusalsLaws.{check_true, acceptable, accept}
use Rattle.model.specs.Sheet.{Found, kernel_read, length_read, one_record, length_record, region_bytes, kernel_record, region_of, beginning_map, domain_records, domains_read, sheet_bytes, sheet_read}
use Rattle.model.specs.GridLaws.{Shaped}
use Rattle.model.proofs.GridLaws.{channel_most}
use Rattle.model.specs.ChannelLaws.{closing}
use Rattle.model.proofs.ChannelLaws.{judged_known}
use Rattle.model.specs.RecordLaws.{Octets}
use Rattle.model.proofs.RecordLaws.{within_narrow, region_back, body_present, record_known, octets_drop, length_spelt, kernel_spelt}
use Rattle.model.specs.SheetLaws.{Reading, Domained}
use Rattle.model.proofs.SheetLaws.{sheet_length, entries_good, domains_back, domains_known}
use Rattle.model.specs.declared.map.Region.{Region}
use Rattle.model.specs.declared.map.Map.{Map}
use Rattle.model.specs.declared.refusal.Refusal.{Refusal}

-- "36 to 351"
pub sheet_bounds :
    (m : Map) (g : Grid) → accepts m g ≡ Ok tt → (36 ≤ length (sheet_bytes m g)) × (length (sheet_bytes m g) ≤ 351)
sheet_bounds m g e =
    let a = acceptable m g e in
    let c = channel_most m.count g a.channels in
    rw sheet_length (omega (arith, a.some, a.few))

beginning : (n : ℕ) (r : Region) → Reading (beginning_map n r)
beginning n r = record { size = refl; after = λ k h l. get_or-replicate most k absent absent l }

pub read_after_write :
    (m : Map) (g : Grid) → Shaped m g → accepts m g ≡ Ok tt → sheet_read (sheet_bytes m g) ≡ Found.whole m g
unfolding sheet_bytes sheet_read
read_after_write m g s e =
    let a = acceptable m g e in
    let domains = domain_records m 0 m.count ++ closing g in
    let rest = kernel_record m.kernel ++ domains in
    let long : sized m.length ≡ true = and_both (le-leb 256 m.length a.long) (le-leb m.length 65536 a.short) in
    body_present 0 4 (bytes m.length ++ rest) (λ b rest. length_read (number b 0) rest) (omega arith)
    ∙ ap (λ (n : ℕ). length_read n rest) (number_bytes m.length (omega (arith, a.short)))
    ∙ rw long
    (body_present 5 8 (region_bytes m.kernel ++ domains) (λ c after. kernel_read m.length (region_of c 0) after) (omega arith))
    ∙ ap (λ (r : Region). kernel_read m.length r domains)
    (region_back m.kernel (within_narrow m.length m.kernel a.short a.kernel))
    ∙ rw a.kernel
    (domains_back m g s a m.count most 14 (beginning_map m.length m.kernel) (beginning m.length m.kernel)
    (record { length = refl; kernel = refl; before = λ k h. absurd (omega arith) }) (omega arith) (omega arith))

module _ (m : Map) (g : Grid) (n : ℕ) (r : Region) (tail : List ℕ) (d : Domained (beginning_map n r) tail m g) where
  read_acceptable : sized n ≡ true → within n r ≡ true → Acceptable m g
  read_acceptable l w =
      record {
        some = d.some;
        few = d.few;
        unused = entries_good m d.reading;
        long = rw d.agree.length (leb-true 256 n (and_left _ (leb n 65536) l));
        short = rw d.agree.length (leb-true n 65536 (and_right (leb 256 n) _ l));
        kernel = rw (d.agree.length, d.agree.kernel) w;
        each = λ k h. d.each k (omega arith) h;
        channels = d.channels;
      }

  read_spelt : sheet_bytes m g ≡ length_record n ++ (kernel_record r ++ tail)
  unfolding sheet_bytes
  read_spelt =
      let c : m.count ≡ d.n = omega (arith, d.total) in
      ap (λ (k : ℕ). length_record m.length ++ (kernel_record m.kernel ++ (domain_records m 0 k ++ closing g))) c
      ∙ ap (λ (x : List ℕ). length_record m.length ++ (kernel_record m.kernel ++ x)) d.spelt
      ∙ ap (λ (x : Region). length_record m.length ++ (kernel_record x ++ tail)) d.agree.kernel
      ∙ ap (λ (x : ℕ). length_record x ++ (kernel_record r ++ tail)) d.agree.length

pub write_after_read :
    (s : List ℕ) (m : Map) (g : Grid) → ((i : ℕ) → get_or s i 0 < 256) → sheet_read s ≡ Found.whole m g
    → Shaped m g × (accepts m g ≡ Ok tt) × (sheet_bytes m g ≡ s)
unfolding sheet_read
write_after_read s m g o e =
    let p = record_known 0 1 4 s (λ b rest. length_read (number b 0) rest) m g e in
    let n = number (take 4 p.rest) 0 in
    let i = judged_known 0 (check (sized n) Refusal.Length)
    (one_record 5 2 8 (drop 4 p.rest) (λ c after. kernel_read n (region_of c 0) after)) m g p.next in
    let q = record_known 5 2 8 (drop 4 p.rest) (λ c after. kernel_read n (region_of c 0) after) m g i.1 in
    let r = region_of (take 8 q.rest) 0 in
    let j = judged_known 5 (check (within n r) Refusal.Bounds)
    (domains_read most 14 (beginning_map n r) (drop 8 q.rest)) m g q.next in
    let op : Octets p.rest = λ i. rw p.same at (o (suc i)) in
    let oq : Octets q.rest = λ i. rw q.same at (octets_drop 4 p.rest op (suc i)) in
    let d = domains_known m g most 14 (beginning_map n r) (drop 8 q.rest) (octets_drop 8 q.rest oq) (beginning n r) refl j.1 in (
      record { domains = d.reading.size; rows = d.square.rows; columns = d.square.columns },
      accept m g (read_acceptable m g n r (drop 8 q.rest) d
          (check_true (sized n) Refusal.Length i.0) (check_true (within n r) Refusal.Bounds j.0)),
      read_spelt m g n r (drop 8 q.rest) d
          ∙ ap (λ (x : List ℕ). length_record n ++ x) (kernel_spelt q.rest oq q.long ∙ sym q.same)
          ∙ length_spelt p.rest op p.long ∙ sym p.same,
    )
