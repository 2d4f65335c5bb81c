-- Laws of Sheet: a run of domain records, and the sheet's length.
--     Agree                 two maps that give the same verdict on a domain, by verdict_agrees
--     domains_length        how many bytes they are; sheet_length: a sheet is 15 + 21N + 3G bytes
--     domains_back          written and read back with what follows, they give the map and the grid
--     domains_known         what a reading of them tells: written again, they are the bytes that were read
-- Assumes nothing.
use Prim.Native.Nat.{ℕ, zero, suc, ◌+◌, ◌*◌, ◌≤◌, ◌<◌}
use Rattle.std.specs.Prelude.{◌≡◌, ◌≢◌, true, ◌&&◌, not, ltb, eqb, take, drop, Ok}
use Rattle.std.proofs.Math.Path.{refl, ap}
use Rattle.std.proofs.Common.{sym, ◌∙◌, arith, length-set, length-append, get_or-set_same, get_or-set_other, ext_get_or}
use mathlib.Core.List.{List, [], ◌∷◌, ◌++◌}
use Rattle.std.proofs.Math.ListN.{length}
use borrow.Author.Tests.{ltb-true, ltb-false, eqb-true, eqb-false, ne_eqb}
use Rattle.model.specs.Basics.{bytes}
use Rattle.model.proofs.BasicsLaws.{by_bool, and_left, and_right}
use Rattle.model.specs.Map.{most, nowhere, absent, Grid, no_grid, overlaps, nth}
use Rattle.model.specs.Refusals.{clear, zero_region, zero_domain, domain_verdict, cell}
use Rattle.model.specs.RefusalsLaws.{entry_good, Acceptable}
use Rattle.model.specs.Sheet.{Found, judged, region_bytes, domain_record, domain_of, with_domain, domain_records, domains_read, channel_records, channels_read, sheet_bytes}
use Rattle.model.specs.GridLaws.{Shaped, channel_count}
use Rattle.model.proofs.GridLaws.{square}
use Rattle.model.specs.ChannelLaws.{closing}
use Rattle.model.proofs.ChannelLaws.{channels_length, one_more, not_refused, judged_known, channels_back, channels_known}
use Rattle.model.specs.RecordLaws.{Small, Octets}
use Rattle.model.proofs.RecordLaws.{verdict_small, domain_back, body_present, body_known, octets_drop, domain_spelt}
use Rattle.model.specs.declared.map.Region.{Region}
use Rattle.model.specs.declared.map.Domain.{Domain}
use Rattle.model.specs.declared.map.Map.{Map}
use Rattle.model.specs.declared.refusal.Refusal.{Refusal}
use Rattle.model.specs.Answers.{Verdict}
use Rattle.model.specs.SheetLaws.{Agree, Reading, Domained}

-- the reader at a domain record
abbrev taken : ℕ → ℕ → Map → Domain → List ℕ → Found
taken room at q d after = judged at (domain_verdict q q.count d) (domains_read room (at + 21) (with_domain q d) after)

domain_read :
    (room at : ℕ) (q : Map) (d : Domain) (rest : List ℕ) → Small d
    → domains_read (suc room) at q (domain_record d ++ rest) ≡ taken room at q d rest
unfolding domains_read
domain_read room at q d rest s =
    body_present at 20 (region_bytes d.code ++ (region_bytes d.«data» ++ (bytes d.entry ++ rest)))
    (λ b after. taken room at q (domain_of b) after) (omega arith)
    ∙ ap (λ (x : Domain). taken room at q x rest) (domain_back d s)

pub domains_length : (m : Map) (i n : ℕ) → length (domain_records m i n) ≡ 21 * n
unfolding domain_records
domains_length m i zero = refl
domains_length m i (suc n) = omega (arith, domains_length m (i + 1) n)

pub sheet_length : (m : Map) (g : Grid) → length (sheet_bytes m g) ≡ 15 + 21 * m.count + 3 * channel_count g
unfolding sheet_bytes channel_count
sheet_length m g = simp (length-append, domains_length, channels_length) (omega arith)

-- ---- a verdict on a domain turns on what stands before it alone

clear_agrees : (m q : Map) (r : Region) (i : ℕ) → Agree i m q → clear m r i ≡ clear q r i
unfolding clear
clear_agrees m q r zero a = ap (λ (x : Region). not (overlaps r x)) a.kernel
clear_agrees m q r (suc i) a =
    let b : Agree i m q = record { length = a.length; kernel = a.kernel; before = λ k h. a.before k (omega arith) } in
    rw (clear_agrees m q r i b, a.before i (omega arith))

verdict_agrees : (m q : Map) (i : ℕ) (d : Domain) → Agree i m q → domain_verdict m i d ≡ domain_verdict q i d
unfolding domain_verdict
verdict_agrees m q i d a =
    rw (clear_agrees m q d.code i a, clear_agrees m q d.«data» i a, a.length)

-- ---- domain records, written and read back

module _ (q : Map) (r : Reading q) (d : Domain) (room : q.count < most) where
  there : nth (with_domain q d) q.count ≡ d
  there = get_or-set_same q.domains q.count d absent (omega (arith, r.size))

  elsewhere : (k : ℕ) → k ≢ q.count → nth (with_domain q d) k ≡ nth q k
  elsewhere k n = get_or-set_other q.domains q.count k d absent n

  reading_more : Reading (with_domain q d)
  reading_more =
      record {
        size = length-set q.domains q.count d ∙ r.size;
        after = λ k h l. elsewhere k (omega arith) ∙ r.after k (omega arith) l;
      }

  agree_more : (m : Map) → Agree q.count m q → nth m q.count ≡ d → Agree (q.count + 1) m (with_domain q d)
  agree_more m a e =
      record {
        length = a.length;
        kernel = a.kernel;
        before = one_more q.count (λ k h. a.before k h ∙ sym (elsewhere k (omega arith))) (e ∙ sym there);
      }

zero_nowhere : (r : Region) → zero_region r ≡ true → r ≡ nowhere
zero_nowhere r e =
    λ i. record {
      begin = eqb-true r.begin 0 (and_left _ (eqb r.end 0) e) i;
      end = eqb-true r.end 0 (and_right (eqb r.begin 0) _ e) i;
    }

zero_absent : (d : Domain) → zero_domain d ≡ true → d ≡ absent
unfolding zero_domain
zero_absent d e =
    let c = and_left (zero_region d.code && zero_region d.«data») (eqb d.entry 0) e in
    λ i. record {
      code = zero_nowhere d.code (and_left _ (zero_region d.«data») c) i;
      «data» = zero_nowhere d.«data» (and_right (zero_region d.code) _ c) i;
      entry = eqb-true d.entry 0 (and_right (zero_region d.code && zero_region d.«data») _ e) i;
    }

pub entries_good : (m : Map) → Reading m → (k : ℕ) → k < most → entry_good m k ≡ true
unfolding zero_domain
entries_good m r k h =
    by_bool (ltb k m.count) (λ t. rw t) (λ t. rw (t, r.after k (ltb-false k m.count t) h))

whole_read :
    (m q : Map) → Reading q → Agree q.count m q → q.count ≡ m.count → length m.domains ≡ most
    → ((k : ℕ) → k < most → entry_good m k ≡ true) → q ≡ m
whole_read m q r a e s u =
    let ds : q.domains ≡ m.domains =
    ext_get_or absent q.domains m.domains (r.size ∙ sym s) (λ k h.
    by_bool (ltb k m.count)
    (λ t. sym (a.before k (omega (arith, ltb-true k m.count t))))
    (λ t. r.after k (omega (arith, ltb-false k m.count t)) (omega (arith, r.size))
    ∙ sym (zero_absent _ (rw t at (u k (omega (arith, r.size))))))) in
    λ i. record { length = sym a.length i; kernel = sym a.kernel i; count = e i; domains = ds i }

-- a channel record or the end is no domain record
tail_read :
    (room at : ℕ) (q : Map) (g : Grid) (p n : ℕ) → 1 ≤ q.count
    → domains_read room at q (channel_records g p n ++ (5 ∷ [])) ≡ channels_read at q 0 no_grid (channel_records g p n ++ (5 ∷ []))
unfolding domains_read channel_records
tail_read zero at q g p n h = refl
tail_read (suc room) at q g p zero h = rw (ne_eqb q.count 0 (omega arith))
tail_read (suc room) at q g p (suc n) h =
    by_bool (cell g p)
    (λ e. rw (e, ne_eqb q.count 0 (omega arith)))
    (λ e. rw e (tail_read (suc room) at q g (p + 1) n h))

pub domains_back :
    (m : Map) (g : Grid) → Shaped m g → Acceptable m g → (n room at : ℕ) (q : Map) → Reading q → Agree q.count m q
    → q.count + n ≡ m.count → q.count + room ≡ most
    → domains_read room at q (domain_records m q.count n ++ closing g) ≡ Found.whole m g
unfolding domain_records
domains_back m g s a zero room at q r b e f =
    rw (whole_read m q r b (omega arith) s.domains a.unused)
    (tail_read room at m g 0 (most * most) a.some ∙ channels_back g (square s) m a.channels at)
domains_back m g s a (suc n) zero at q r b e f = absurd (omega (arith, a.few))
domains_back m g s a (suc n) (suc room) at q r b e f =
    let d = nth m q.count in
    let v = a.each q.count (omega arith) in
    let rest = domain_records m (q.count + 1) n ++ closing g in
    domain_read room at q d rest (verdict_small m q.count d a.short v)
    ∙ ap (λ (w : Verdict). judged at w (domains_read room (at + 21) (with_domain q d) rest))
    (sym (verdict_agrees m q q.count d b) ∙ v)
    ∙ domains_back m g s a n room (at + 21) (with_domain q d) (reading_more q r d (omega arith))
    (agree_more q r d (omega arith) m b refl) (omega arith) (omega arith)

-- ---- domain records, read and written again

module _ (m : Map) (g : Grid) where
  domains_end :
      (at : ℕ) (q : Map) (bs : List ℕ) → Reading q → 1 ≤ q.count → q.count ≤ most
      → channels_read at q 0 no_grid bs ≡ Found.whole m g → Domained q bs m g
  unfolding domain_records
  domains_end at q bs r some few e =
      let c = channels_known q few m g at bs e in
      rw c.same
      record {
        n = 0;
        total = omega arith;
        some = some;
        few = few;
        agree = record { length = refl; kernel = refl; before = λ k h. refl };
        reading = r;
        each = λ k h l. absurd (omega arith);
        square = c.square;
        channels = λ p h. c.good p (omega arith) h;
        spelt = c.spelt;
      }

  domains_more :
      (q : Map) (d : Domain) (rest bs : List ℕ) → Reading q → q.count < most → domain_verdict q q.count d ≡ Ok tt
      → domain_record d ++ rest ≡ bs → Domained (with_domain q d) rest m g → Domained q bs m g
  unfolding domain_records
  domains_more q d rest bs r room v e c =
      let here : nth m q.count ≡ d = c.agree.before q.count (omega arith) ∙ there q r d room in
      let agree : Agree q.count m q = record {
        length = c.agree.length;
        kernel = c.agree.kernel;
        before = λ k h. c.agree.before k (omega arith) ∙ elsewhere q r d room k (omega arith);
      } in
      record {
        n = suc c.n;
        total = omega (arith, c.total);
        some = c.some;
        few = c.few;
        agree = agree;
        reading = c.reading;
        each = λ k h l. by_bool (ltb q.count k)
            (λ t. c.each k (omega (arith, ltb-true q.count k t)) l)
            (λ t. let x : k ≡ q.count = omega (arith, ltb-false q.count k t) in
            rw (x, here) (verdict_agrees m q q.count d agree ∙ v));
        square = c.square;
        channels = c.channels;
        spelt = ap (λ (x : Domain). domain_record x ++ (domain_records m (q.count + 1) c.n ++ closing g)) here
            ∙ ap (λ (x : List ℕ). domain_record d ++ x) c.spelt ∙ e;
      }

  pub domains_known :
      (room at : ℕ) (q : Map) (bs : List ℕ) → Octets bs → Reading q → q.count + room ≡ most
      → domains_read room at q bs ≡ Found.whole m g → Domained q bs m g
  unfolding domains_read
  domains_known zero at q bs o r h e = domains_end at q bs r (omega arith) (omega arith) e
  domains_known (suc room) at q [] o r h e = not_refused Refusal.Short at m g e
  domains_known (suc room) at q (k ∷ rest) o r h e =
      by_bool (eqb k 3)
      (λ t.
      let b = body_known at 20 rest (λ b after. taken room at q (domain_of b) after) m g (rw t at e) in
      let d = domain_of (take 20 rest) in
      let j = judged_known at (domain_verdict q q.count d) (domains_read room (at + 21) (with_domain q d) (drop 20 rest)) m g b.1 in
      domains_more q d (drop 20 rest) (k ∷ rest) r (omega arith) j.0
      (rw (eqb-true k 3 t) (domain_spelt rest (λ i. o (suc i)) b.0))
      (domains_known room (at + 21) (with_domain q d) (drop 20 rest) (octets_drop 20 rest (λ i. o (suc i)))
      (reading_more q r d (omega arith)) (omega arith) j.1))
      (λ t. by_bool (eqb q.count 0)
      (λ z. not_refused Refusal.Kind at m g (rw (t, z) at e))
      (λ z. domains_end at q (k ∷ rest) r (omega (arith, eqb-false q.count 0 z)) (omega arith) (rw (t, z) at e)))
