-- The counters of loops. A definition recurses from suc n to n; the code goes from n to n - 1, or from i to i + 1 with n - i left.
--     back    one less than the next number
--     fewer   one more is passed, so one less is left
--     spent   nothing is left, and nothing decides as all did; passed: the same, where all n are passed
-- Assumes nothing.
use Rattle.std.specs.Prelude.{ℕ, suc, ◌+◌, ◌-◌, ◌≤◌, ◌≡◌}
use Rattle.std.proofs.Common.{arith}

pub back : (n : ℕ) → suc n - 1 ≡ n
back n = omega arith

pub fewer : (n i : ℕ) → n - i - 1 ≡ n - (i + 1)
fewer n i = omega arith

pub spent : {A : Type 0} (f : ℕ → A) {n : ℕ} {all : A} → f n ≡ all → n ≤ 0 → f 0 ≡ all
spent f {n = n} e h = let none : n ≡ 0 = omega arith in rw none at e

pub passed : {A : Type 0} (f : ℕ → A) {n i : ℕ} {all : A} → f (n - i) ≡ all → n ≤ i → f 0 ≡ all
passed f e h = spent f e (omega arith)
