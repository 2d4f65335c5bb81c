-- Laws of Refusals: what acceptance tells.
--     Acceptable            the facts that `accepts m g ≡ Ok tt` gives, by `acceptable`, and that give it, by `accept`
-- Assumes nothing.
use Rattle.std.specs.Prelude.{ℕ, zero, suc, ◌+◌, ◌*◌, ◌≤◌, ◌<◌, ◌≡◌, refl, Bool, true, false, ◌&&◌, not, leb, ltb, Ok, Err}
use Rattle.std.proofs.Common.{arith, add-zero, zero-add, ltb-true, ltb-false, leb-true, le-leb}
use Rattle.model.specs.Map.{most, inside, overlaps, Grid, nth}
use Rattle.model.specs.Refusals.{check, ◌▸◌, counted, unused_zero, sized, within, free_of, clear, domain_verdict, domains_verdict, channels_good, map_verdict, accepts}
use Rattle.model.proofs.BasicsLaws.{by_bool, and_left, and_right, and_both}
use Rattle.model.specs.declared.map.Region.{Region}
use Rattle.model.specs.declared.map.Domain.{Domain}
use Rattle.model.specs.declared.map.Map.{Map}
use Rattle.model.specs.declared.refusal.Refusal.{Refusal}
use Rattle.model.specs.Answers.{Verdict}
use Rattle.model.specs.RefusalsLaws.{DomainAccepted, cell_good, entry_good, Acceptable, Placed}

pub check_true : (b : Bool) (r : Refusal) → check b r ≡ Ok tt → b ≡ true
check_true true r e = refl
check_true false r e = cc

pub then_left : (v w : Verdict) → v ▸ w ≡ Ok tt → v ≡ Ok tt
then_left (Ok tt) w e = refl
then_left (Err r) w e = e

pub then_right : (v w : Verdict) → v ▸ w ≡ Ok tt → w ≡ Ok tt
then_right (Ok tt) w e = e
then_right (Err r) w e = cc

pub then_both : {v w : Verdict} → v ≡ Ok tt → w ≡ Ok tt → v ▸ w ≡ Ok tt
then_both e f = rw e f

pub check_both : {b : Bool} {w : Verdict} (r : Refusal) → b ≡ true → w ≡ Ok tt → check b r ▸ w ≡ Ok tt
check_both r e f = rw e f

domain_at : (m : Map) (i n k : ℕ) → domains_verdict m i n ≡ Ok tt → k < n → DomainAccepted m (i + k)
unfolding domains_verdict
domain_at m i zero k e h = absurd (omega arith)
domain_at m i (suc n) zero e h = rw add-zero (then_left _ (domains_verdict m (i + 1) n) e)
domain_at m i (suc n) (suc k) e h =
    let p : i + 1 + k ≡ i + suc k = omega arith in
    rw p at (domain_at m (i + 1) n k (then_right (domain_verdict m i (nth m i)) _ e) (omega arith))

domains_from :
    (m : Map) (i n : ℕ) → ((k : ℕ) → i ≤ k → k < i + n → DomainAccepted m k) → domains_verdict m i n ≡ Ok tt
unfolding domains_verdict
domains_from m i zero h = refl
domains_from m i (suc n) h =
    then_both (h i (omega arith) (omega arith)) (domains_from m (i + 1) n (λ k a b. h k (omega arith) (omega arith)))

cell_at : (count : ℕ) (g : Grid) (p n k : ℕ) → channels_good count g p n ≡ true → k < n → cell_good count g (p + k) ≡ true
unfolding channels_good
cell_at count g p zero k e h = absurd (omega arith)
cell_at count g p (suc n) zero e h = rw add-zero (and_left _ (channels_good count g (p + 1) n) e)
cell_at count g p (suc n) (suc k) e h =
    let q : p + 1 + k ≡ p + suc k = omega arith in
    rw q at (cell_at count g (p + 1) n k (and_right (cell_good count g p) _ e) (omega arith))

cells_from :
    (count : ℕ) (g : Grid) (p n : ℕ) → ((k : ℕ) → p ≤ k → k < p + n → cell_good count g k ≡ true)
    → channels_good count g p n ≡ true
unfolding channels_good
cells_from count g p zero h = refl
cells_from count g p (suc n) h =
    and_both (h p (omega arith) (omega arith)) (cells_from count g (p + 1) n (λ k a b. h k (omega arith) (omega arith)))

entry_at : (m : Map) (n k : ℕ) → unused_zero m n ≡ true → k < n → entry_good m k ≡ true
unfolding unused_zero
entry_at m zero k e h = absurd (omega arith)
entry_at m (suc n) k e h =
    by_bool (ltb k n) (λ l. entry_at m n k (and_right (entry_good m n) _ e) (ltb-true k n l))
    (λ l. let q : n ≡ k = omega (arith, ltb-false k n l) in rw q at (and_left (entry_good m n) (unused_zero m n) e))

entries_from : (m : Map) (n : ℕ) → ((k : ℕ) → k < n → entry_good m k ≡ true) → unused_zero m n ≡ true
unfolding unused_zero
entries_from m zero h = refl
entries_from m (suc n) h = and_both (h n (omega arith)) (entries_from m n (λ k a. h k (omega arith)))

pub acceptable : (m : Map) (g : Grid) → accepts m g ≡ Ok tt → Acceptable m g
unfolding accepts map_verdict
acceptable m g e =
    let a = then_left (map_verdict m) (check (channels_good m.count g 0 (most * most)) Refusal.Channel) e in
    let z = then_right (map_verdict m) (check (channels_good m.count g 0 (most * most)) Refusal.Channel) e in
    let v₄ = domains_verdict m 0 m.count in
    let v₃ = check (within m.length m.kernel) Refusal.Bounds ▸ v₄ in
    let v₂ = check (sized m.length) Refusal.Length ▸ v₃ in
    let v₁ = check (unused_zero m most) Refusal.Kind ▸ v₂ in
    let b = then_right (check (counted m.count) Refusal.Kind) v₁ a in
    let c = then_right (check (unused_zero m most) Refusal.Kind) v₂ b in
    let d = then_right (check (sized m.length) Refusal.Length) v₃ c in
    let f = then_right (check (within m.length m.kernel) Refusal.Bounds) v₄ d in
    let n = check_true (counted m.count) Refusal.Kind (then_left _ v₁ a) in
    let l = check_true (sized m.length) Refusal.Length (then_left _ v₃ c) in
    record {
      some = leb-true _ _ (and_left (leb 1 m.count) _ n);
      few = leb-true _ _ (and_right (leb 1 m.count) _ n);
      unused = λ k h. entry_at m most k (check_true _ Refusal.Kind (then_left _ v₂ b)) h;
      long = leb-true _ _ (and_left (leb 256 m.length) _ l);
      short = leb-true _ _ (and_right (leb 256 m.length) _ l);
      kernel = check_true _ Refusal.Bounds (then_left _ v₄ d);
      each = λ k h. rw zero-add at (domain_at m 0 m.count k f h);
      channels = λ p h. rw zero-add at (cell_at m.count g 0 (most * most) p (check_true _ Refusal.Channel z) h);
    }

pub accept : (m : Map) (g : Grid) → Acceptable m g → accepts m g ≡ Ok tt
unfolding accepts map_verdict
accept m g a =
    then_both
    (check_both Refusal.Kind (and_both (le-leb _ _ a.some) (le-leb _ _ a.few))
    (check_both Refusal.Kind (entries_from m most a.unused)
    (check_both Refusal.Length (and_both (le-leb _ _ a.long) (le-leb _ _ a.short))
    (check_both Refusal.Bounds a.kernel (domains_from m 0 m.count (λ k p q. a.each k (omega arith)))))))
    (rw (cells_from m.count g 0 (most * most) (λ k p q. a.channels k (omega arith))))

-- ---- what an accepted domain that stands after the first i tells

pub placed : (m : Map) (i : ℕ) (d : Domain) → domain_verdict m i d ≡ Ok tt → Placed m i d
unfolding domain_verdict
placed m i d e =
    let v₅ = check (clear m d.«data» i && not (overlaps d.«data» d.code)) Refusal.Overlap in
    let v₄ = check (clear m d.code i) Refusal.Overlap ▸ v₅ in
    let v₃ = check (inside d.code d.entry) Refusal.Entry ▸ v₄ in
    let v₂ = check (within m.length d.«data») Refusal.Bounds ▸ v₃ in
    let a = then_right (check (within m.length d.code) Refusal.Bounds) v₂ e in
    let b = then_right (check (within m.length d.«data») Refusal.Bounds) v₃ a in
    let c = then_right (check (inside d.code d.entry) Refusal.Entry) v₄ b in
    let f = check_true _ Refusal.Overlap (then_right (check (clear m d.code i) Refusal.Overlap) v₅ c) in
    record {
      code = check_true _ Refusal.Bounds (then_left _ v₂ e);
      «data» = check_true _ Refusal.Bounds (then_left _ v₃ a);
      entry = check_true _ Refusal.Entry (then_left _ v₄ b);
      code_clear = check_true _ Refusal.Overlap (then_left _ v₅ c);
      data_clear = and_left (clear m d.«data» i) _ f;
      split = and_right (clear m d.«data» i) _ f;
    }

pub clear_kernel : (m : Map) (r : Region) (i : ℕ) → clear m r i ≡ true → not (overlaps r m.kernel) ≡ true
unfolding clear
clear_kernel m r zero e = e
clear_kernel m r (suc i) e = clear_kernel m r i (and_right (free_of r (nth m i)) _ e)

pub clear_domain :
    (m : Map) (r : Region) (i k : ℕ) → clear m r i ≡ true → k < i → free_of r (nth m k) ≡ true
unfolding clear
clear_domain m r zero k e h = absurd (omega arith)
clear_domain m r (suc i) k e h =
    by_bool (ltb k i)
    (λ l. clear_domain m r i k (and_right (free_of r (nth m i)) _ e) (ltb-true k i l))
    (λ l.
    let q : i ≡ k = omega (arith, ltb-false k i l) in
    rw q at (and_left (free_of r (nth m i)) (clear m r i) e))
