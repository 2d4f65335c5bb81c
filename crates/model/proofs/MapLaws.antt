-- Laws of Map: regions as sets of addresses, the access rule, and the lowest denied address.
-- Assumes nothing.
use Prim.Native.Nat.{ℕ, zero, suc, ◌+◌, ◌≤◌, ◌<◌, max}
use Rattle.std.specs.Prelude.{◌≡◌, refl, Bool, true, false, ◌&&◌, not, ◌⊎◌, leb, ltb}
use Rattle.std.proofs.Common.{sym, ◌∙◌, inl, inr}
use Rattle.std.proofs.Math.Option.{none, some}
use native.Mathlib.Omega.{arith}
use borrow.Author.Tests.{ltb-true, ltb-false, leb-true, lt-ltb, le-leb}
use Rattle.model.proofs.BasicsLaws.{by_bool, none_some, and_left, and_right, and_both}
use Rattle.model.specs.Map.{inside, filled, overlaps, Grid, is_domain, may, granted, lowest}
use Rattle.model.specs.declared.map.Region.{Region}
use Rattle.model.specs.declared.map.Domain.{Domain}
use Rattle.model.specs.declared.map.Access.{Access}

-- ---- regions

pub inside_from : (r : Region) (a : ℕ) → inside r a ≡ true → r.begin ≤ a
inside_from r a e = leb-true _ _ (and_left (leb r.begin a) (ltb a r.end) e)

pub inside_below : (r : Region) (a : ℕ) → inside r a ≡ true → a < r.end
inside_below r a e = ltb-true _ _ (and_right (leb r.begin a) (ltb a r.end) e)

pub inside_between : (r : Region) (a : ℕ) → r.begin ≤ a → a < r.end → inside r a ≡ true
inside_between r a h k = and_both (le-leb _ _ h) (lt-ltb _ _ k)

-- the test is right: two regions overlap exactly if some address is inside both
pub overlaps_shared : (r q : Region) (a : ℕ) → inside r a ≡ true → inside q a ≡ true → overlaps r q ≡ true
unfolding overlaps
overlaps_shared r q a e f =
    let b = inside_from r a e in
    let c = inside_below r a e in
    let x = inside_from q a f in
    let y = inside_below q a f in
    rw (
      lt-ltb r.begin r.end (omega arith),
      lt-ltb q.begin q.end (omega arith),
      lt-ltb r.begin q.end (omega arith),
      lt-ltb q.begin r.end (omega arith),
    )

pub overlaps_somewhere :
    (r q : Region) → overlaps r q ≡ true → (a : ℕ) × (inside r a ≡ true) × (inside q a ≡ true)
unfolding overlaps
overlaps_somewhere r q e =
    let t₃ = and_left (filled r && filled q && ltb r.begin q.end) _ e in
    let t₂ = and_left (filled r && filled q) _ t₃ in
    let a : r.begin < r.end = ltb-true _ _ (and_left (filled r) _ t₂) in
    let b : q.begin < q.end = ltb-true _ _ (and_right (filled r) _ t₂) in
    let c : r.begin < q.end = ltb-true _ _ (and_right (filled r && filled q) _ t₃) in
    let d : q.begin < r.end = ltb-true _ _ (and_right (filled r && filled q && ltb r.begin q.end) _ e) in (
      max r.begin q.begin,
      inside_between r _ (omega arith) (omega arith),
      inside_between q _ (omega arith) (omega arith),
    )

pub overlaps_swap : (r q : Region) → overlaps r q ≡ overlaps q r
overlaps_swap r q =
    by_bool (overlaps r q)
    (λ e. let w = overlaps_somewhere r q e in e ∙ sym (overlaps_shared q r w.0 w.2 w.1))
    (λ e. by_bool (overlaps q r)
    (λ f. let w = overlaps_somewhere q r f in overlaps_shared r q w.0 w.2 w.1 ∙ sym f)
    (λ f. e ∙ sym f))

pub apart : (r q : Region) (a : ℕ) → not (overlaps r q) ≡ true → inside r a ≡ true → inside q a ≡ false
apart r q a n e = by_bool (inside q a) (λ f. let o = overlaps_shared r q a e f in cc) (λ f. f)

-- ---- domains

pub in_range : (count d : ℕ) → is_domain count d ≡ true → (1 ≤ d) × (d ≤ count)
in_range count d e = (leb-true 1 d (and_left _ (leb d count) e), leb-true d count (and_right (leb 1 d) _ e))

pub granted_domain : (count : ℕ) (g : Grid) (f t : ℕ) → granted count g f t ≡ true → is_domain count t ≡ true
unfolding granted
granted_domain count g f t e = and_left (is_domain count t) _ e

-- ---- the access rule

-- source 000, lemma 7: what may be written or fetched may be read
pub may_read : (d : Domain) (k : Access) (a : ℕ) → may d k a ≡ true → may d Access.Read a ≡ true
unfolding may
may_read d Access.Read a e = e
may_read d Access.Write a e = by_bool (inside d.code a) (λ f. rw f) (λ f. rw f e)
may_read d Access.Fetch a e = rw e

-- ---- the lowest denied address

module _ (allowed : ℕ → Bool) where
  -- where none is denied each is allowed; `lowest_denied` is the other way
  pub lowest_none : (a n : ℕ) → lowest allowed a n ≡ none → (i : ℕ) → i < n → allowed (a + i) ≡ true
  unfolding lowest
  lowest_none a zero e i h = absurd (omega arith)
  lowest_none a (suc n) e zero h =
      by_bool (allowed a) (λ t. let z : a + 0 ≡ a = omega arith in rw z t) (λ f. let x = rw f at e in cc)
  lowest_none a (suc n) e (suc i) h =
      let z : a + 1 + i ≡ a + suc i = omega arith in
      by_bool (allowed a)
      (λ t. let x = rw t at e in rw z at (lowest_none (a + 1) n x i (omega arith)))
      (λ f. let x = rw f at e in cc)

  -- what is reported is denied, lies in the access, and all below it is allowed
  pub lowest_denied :
      (a n x : ℕ) → lowest allowed a n ≡ some x
      → (a ≤ x) × (x < a + n) × (allowed x ≡ false) × ((y : ℕ) → a ≤ y → y < x → allowed y ≡ true)
  unfolding lowest
  lowest_denied a zero x e = absurd (none_some e)
  lowest_denied a (suc n) x e =
      by_bool (allowed a)
      (λ t.
      let f = rw t at e in
      let w = lowest_denied (a + 1) n x f in (
        omega (arith, w.0),
        omega (arith, w.1),
        w.2,
        λ y p q. by_bool (ltb a y) (λ l. w.3 y (omega (arith, ltb-true a y l)) q)
            (λ l. let z : a ≡ y = omega (arith, ltb-false a y l) in rw z at t),
      ))
      (λ f.
      let g = rw f at e in
      let z : a ≡ x = cc in
      (omega arith, omega arith, rw z at f, λ y p q. absurd (omega arith)))

-- a wider rule finds the same lowest denied address, or allows the one that the first reports
pub lowest_wider :
    (first second : ℕ → Bool) → ((a : ℕ) → first a ≡ true → second a ≡ true) → (a n : ℕ)
    → (lowest first a n ≡ lowest second a n) ⊎ ((x : ℕ) × (lowest first a n ≡ some x) × (second x ≡ true))
unfolding lowest
lowest_wider first second w a zero = inl refl
lowest_wider first second w a (suc n) =
    by_bool (first a)
    (λ t. rw (t, w a t) (lowest_wider first second w (a + 1) n))
    (λ f. by_bool (second a) (λ t. inr (a, (rw f), t)) (λ g. inl (rw (f, g))))
