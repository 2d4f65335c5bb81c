-- The lowest denied address, as the code finds it.
-- Assumes nothing.
use Rattle.std.specs.Prelude.{◌≡◌, ℕ, zero, suc, ◌+◌, ◌-◌, ◌<◌, ◌≤◌, Bool, true, false, Option as Found, None, Some, MatchOption, nat_lt, refl}
use Rattle.std.proofs.Common.{sym, arith, ltb-true, ltb-false}
use Rattle.std.proofs.Math.Option.{none, some}
use Rattle.model.proofs.BasicsLaws.{by_bool}
use Rattle.model.proofs.LoopLaws.{back}
use Rattle.model.specs.Map.{lowest}
use Rattle.instructions.specs.Told.{lowest_of}

module _ (allowed : ℕ → Bool) where
  -- where the first is allowed, the search goes on
  pub lowest_on : (a n : ℕ) → 0 < n → allowed a ≡ true → lowest allowed a n ≡ lowest allowed (a + 1) (n - 1)
  unfolding lowest
  lowest_on a zero h e = absurd (omega arith)
  lowest_on a (suc n) h e = rw (e, back n)

  -- where it is denied, it is the lowest
  pub lowest_here : (a n : ℕ) → 0 < n → allowed a ≡ false → lowest allowed a n ≡ some a
  unfolding lowest
  lowest_here a zero h e = absurd (omega arith)
  lowest_here a (suc n) h e = rw e

  abbrev Allowed : ℕ → ℕ → Type 0
  Allowed a past = (k : ℕ) → a ≤ k → k < past → allowed k ≡ true

  pub none_denied : (a n : ℕ) → Allowed a (a + n) → lowest allowed a n ≡ none
  unfolding lowest
  none_denied a zero h = refl
  none_denied a (suc n) h =
      rw (h a (omega arith) (omega arith)) (none_denied (a + 1) n (λ k l m. h k (omega arith) (omega arith)))

  pub first_denied : (a n i : ℕ) → a ≤ i → i < a + n → allowed i ≡ false → Allowed a i → lowest allowed a n ≡ some i
  unfolding lowest
  first_denied a zero i l m e h = absurd (omega arith)
  first_denied a (suc n) i l m e h =
      by_bool (nat_lt a i)
      (λ t. rw (h a (omega arith) (ltb-true a i t))
      (first_denied (a + 1) n i (omega (arith, ltb-true a i t)) (omega arith) e (λ k l m. h k (omega arith) m)))
      (λ t. let here : a ≡ i = omega (arith, ltb-false a i t) in rw (here, e))

  pub lowest_found :
      (a past : ℕ) (r : Found ℕ)
      → MatchOption r (Allowed a past) (λ i. (a ≤ i) × (i < past) × (allowed i ≡ false) × Allowed a i)
      → lowest_of r ≡ lowest allowed a (past - a)
  lowest_found a past None h = sym (none_denied a (past - a) (λ k l m. h k l (omega arith)))
  lowest_found a past (Some i) h = sym (first_denied a (past - a) i h.0 (omega (arith, h.0, h.1)) h.2 h.3)
