-- A definition that tests the first n places takes the last one first; the code walks a list from its front. What both find is the same.
--     each_place     a test of each of the first n places, as the definitions recurse
--     walked         walking a list but for its first k elements is testing each place that is not below k
--     walked_front   walking the first n elements of a list is testing each place below n, where a place past its end passes
-- Assumes nothing.
use Rattle.std.specs.Prelude.{ℕ, zero, suc, ◌≤◌, ◌<◌, ◌≡◌, refl, Bool, true, ◌&&◌, List, [], ◌∷◌, length, get_or, take, drop}
use Rattle.std.specs.List.{list_all}
use Rattle.std.proofs.Common.{arith, sym, ◌∙◌, ap}
use Rattle.std.proofs.Math.Seq.{take-nil}
use Rattle.model.proofs.BasicsLaws.{and_swap}

unfoldable pub each_place : (ℕ → Bool) → ℕ → Bool
each_place q zero = true
each_place q (suc n) = let rest = each_place q n in q n && rest

shift : (q : ℕ → Bool) (n : ℕ) → each_place q (suc n) ≡ q 0 && each_place (λ i. q (suc i)) n
unfolding each_place
shift q zero = refl
shift q (suc n) = ap (λ b. q (suc n) && b) (shift q n) ∙ and_swap (q (suc n)) (q 0) (each_place (λ i. q (suc i)) n)

module _ {X : Type 0} (p : X → Bool) (d : X) where
  pub walked :
      (k : ℕ) (xs : List X) (q : ℕ → Bool) → ((i : ℕ) → i < k → q i ≡ true) → ((i : ℕ) → k ≤ i → q i ≡ p (get_or xs i d))
      → list_all p (drop k xs) ≡ each_place q (length xs)
  unfolding each_place
  walked zero [] q low high = refl
  walked (suc k) [] q low high = refl
  walked zero (x ∷ xs) q low high =
      let rest = walked zero xs (λ i. q (suc i)) (λ i h. absurd (omega (arith, h))) (λ i h. high (suc i) (omega arith)) in
      sym (shift q (length xs) ∙ ap (λ b. b && each_place (λ i. q (suc i)) (length xs)) (high 0 (omega arith)) ∙ ap (λ b. p x && b) (sym rest))
  walked (suc k) (x ∷ xs) q low high =
      let rest = walked k xs (λ i. q (suc i)) (λ i h. low (suc i) (omega (arith, h))) (λ i h. high (suc i) (omega (arith, h))) in
      sym (shift q (length xs) ∙ ap (λ b. b && each_place (λ i. q (suc i)) (length xs)) (low 0 (omega arith)) ∙ sym rest)

  pub walked_front :
      p d ≡ true → (n : ℕ) (xs : List X) (q : ℕ → Bool) → ((i : ℕ) → i < n → q i ≡ p (get_or xs i d)) → list_all p (take n xs) ≡ each_place q n
  unfolding each_place
  walked_front past zero xs q each = refl
  walked_front past (suc n) [] q each =
      let rest = walked_front past n [] (λ i. q (suc i)) (λ i l. each (suc i) (omega (arith, l))) in
      sym (shift q n ∙ ap (λ b. b && each_place (λ i. q (suc i)) n) (each 0 (omega arith) ∙ past) ∙ sym (ap (list_all p) (sym (take-nil n)) ∙ rest))
  walked_front past (suc n) (x ∷ xs) q each =
      let rest = walked_front past n xs (λ i. q (suc i)) (λ i l. each (suc i) (omega (arith, l))) in
      sym (shift q n ∙ ap (λ b. b && each_place (λ i. q (suc i)) n) (each 0 (omega arith)) ∙ ap (λ b. p x && b) (sym rest))
