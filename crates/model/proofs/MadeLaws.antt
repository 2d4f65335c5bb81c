-- For code that makes an array place by place. h is what the closure gives, which no call changes.
-- Assumes nothing.
use Rattle.std.specs.Prelude.{ℕ, zero, suc, ◌+◌, ◌≤◌, ◌<◌, ◌≡◌, List, get_or}
use Rattle.std.specs.Array.{IsFromFnResultFrom, IsFromFnResult}
use Rattle.std.specs.Fn.{Called}
use Rattle.std.proofs.Common.{refl, subst, ◌∙◌, zero-add, arith}
use denote.Param.Members.{Mut}

module _ {F B : Type 0} {g : Mut F (ℕ × Unit {0}) B} {f : F} (n : ℕ) (h : ℕ → B)
    (call : (i : ℕ) (y : B) (q : F) → i < n → Called g f (i, tt) y q → (q ≡ f) × (y ≡ h i)) where
  made_from :
      (ys : List B) (i m : ℕ) (p : F) → i + m ≤ n → p ≡ f → IsFromFnResultFrom g p ys i m
      → (k : ℕ) (d : B) → k < m → get_or ys (i + k) d ≡ h (i + k)
  made_from ys i zero p b e r k d l = absurd (omega arith)
  made_from ys i (suc m) p b e (q, y, x, c, r) zero d l =
      let t = call i y q (omega arith) (subst (λ p. Called g p (i, tt) y q) e c) in
      let z : i + 0 ≡ i = omega arith in
      rw z (x.1 d ∙ t.1)
  made_from ys i (suc m) p b e (q, y, x, c, r) (suc k) d l =
      let t = call i y q (omega arith) (subst (λ p. Called g p (i, tt) y q) e c) in
      let z : i + suc k ≡ (i + 1) + k = omega arith in
      rw z (made_from ys (i + 1) m q (omega arith) t.0 r k d (omega arith))

  -- what `from_fn` has made
  pub made : {ys : List B} → IsFromFnResult g f ys n → (k : ℕ) (d : B) → k < n → get_or ys k d ≡ h k
  made {ys = ys} r k d l = rw zero-add at (made_from ys 0 n f (omega arith) refl r.each k d l)
