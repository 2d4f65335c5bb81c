-- The arms of a `match` over the kinds: where each row from a place on has the same value, so has the row of a kind there.
-- Assumes nothing.
use Rattle.std.specs.Prelude.{◌≡◌, ℕ, zero, suc, ◌+◌, ◌-◌, ◌<◌, ◌≤◌, Bool, List, [], ◌∷◌, map, get_or, take, drop, replicate, ◌≢◌, slice_index_or}
use Rattle.std.proofs.Common.{sym, ap, ◌∙◌, add-zero, zero-add, arith, get_or-take, get_or-drop}
use Rattle.std.proofs.lemmas.List.{get_or-replicate}
use Rattle.std.proofs.Math.ListN.{get_or-map}
use Rattle.model.specs.Table.{Row, table, row_of}

module _ {A : Type 0} {x : A} {k : ℕ} where
  -- n elements from a place on are x, the one at k among them
  run :
      (l : List A) (from n : ℕ) (d : A) → take n (drop from l) ≡ replicate n x → from ≤ k → k < from + n
      → x ≡ slice_index_or l k d
  run l from n d all low high =
      let inside : k - from < n = omega arith in
      let there : from + (k - from) ≡ k = omega arith in
      sym (get_or-replicate n (k - from) x d inside) ∙ rw (← all, get_or-take, get_or-drop, there)

  -- n rows from a place on, that of the kind k among them, are x to f
  pub rows :
      (f : Row → A) (from n : ℕ) → take n (drop from (map f table)) ≡ replicate n x → from ≤ k → k < from + n
      → x ≡ f (row_of k)
  unfolding row_of
  rows f from n all low high = run (map f table) from n _ all low high ∙ get_or-map f table k _

-- P, and a kind that is none of the n from a on
abbrev pub Past : Type 0 → ℕ → ℕ → ℕ → Type 0
Past P k a zero = P
Past P k a (suc n) = Past P k a n × (k ≢ a + n)

pub past : {P : Type 0} (k a n : ℕ) → (P → a ≤ k) → Past P k a n → a + n ≤ k
past k a zero l p = omega (arith, l p)
past k a (suc n) l p = let below : a + n ≤ k = past k a n l p.0 in omega (arith, p.1)

-- n numbers from a on
abbrev counted : ℕ → ℕ → List ℕ
counted a zero = []
counted a (suc n) = a ∷ counted (a + 1) n

counted_at : (a n k d : ℕ) → k < n → slice_index_or (counted a n) k d ≡ a + k
counted_at a zero k d h = absurd (omega arith)
counted_at a (suc n) zero d h = sym (add-zero a)
counted_at a (suc n) (suc k) d h = let e : a + 1 + k ≡ a + suc k = omega arith in counted_at (a + 1) n k d (omega arith) ∙ e

-- what a test says of the numbers of the kinds, and of the first that is none, it says of their rows
pub kinds :
    (f : ℕ → Bool) (h : Row → Bool) → map f (counted 0 20) ≡ map h table → f 20 ≡ h (row_of 20) → (k : ℕ) → k ≤ 19 → f k ≡ h (row_of k)
unfolding row_of table
kinds f h all none k l =
    let there : get_or (counted 0 20) k 20 ≡ k = counted_at 0 20 k 20 (omega arith) ∙ zero-add k in
    ap f (sym there) ∙ sym (get_or-map f (counted 0 20) k 20) ∙ ap (λ x. get_or (map f (counted 0 20)) k x) none
    ∙ ap (λ l. get_or l k (h (row_of 20))) all ∙ get_or-map h table k _
