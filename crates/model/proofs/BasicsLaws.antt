-- Laws of Basics, and of the tests that the definitions are made of.
--     by_bool, by_option    a proof by cases that keeps the equation
--     either                what holds of both branches of a choice holds of the choice
--     and_left, and_right   what a conjunction that holds tells;   and_swap: the second test made first
--     number_bytes, bytes_number   a number's four bytes read back, and four bytes written back
-- Assumes nothing.
use Rattle.std.specs.Prelude.{ℕ, ◌+◌, ◌*◌, ◌/◌, ◌%◌, ◌^◌, ◌<◌, ◌≡◌, refl, Bool, true, false, ◌&&◌, ◌||◌, [], ◌∷◌, if◌then◌else◌}
use Rattle.std.proofs.Math.Option.{Option, none, some}
use Rattle.std.proofs.Common.{mod-eq_of_lt, arith}
use Rattle.model.specs.Basics.{bytes, number}

pub by_bool {ℓ} : {A : Type ℓ} (b : Bool) → (b ≡ true → A) → (b ≡ false → A) → A
by_bool true t f = t refl
by_bool false t f = f refl

pub by_option {ℓ} : {A : Type ℓ} (o : Option ℕ) → (o ≡ none → A) → ((n : ℕ) → o ≡ some n → A) → A
by_option none f g = f refl
by_option (some n) f g = g n refl

pub none_some : {n : ℕ} → ◌≡◌ {A = Option ℕ} none (some n) → ⊥
none_some e = let z : ◌≡◌ {A = ℕ} 0 1 = cc in omega arith

pub true_false : {b : Bool} → b ≡ true → b ≡ false → ⊥
true_false e f = let z : ◌≡◌ {A = ℕ} 0 1 = cc in omega arith

pub and_left : (a b : Bool) → a && b ≡ true → a ≡ true
and_left true b e = refl
and_left false b e = e

pub and_right : (a b : Bool) → a && b ≡ true → b ≡ true
and_right true b e = e
and_right false b e = cc

pub and_swap : (a b c : Bool) → a && (b && c) ≡ b && (a && c)
and_swap true b c = refl
and_swap false true c = refl
and_swap false false c = refl

pub and_both : {a b : Bool} → a ≡ true → b ≡ true → a && b ≡ true
and_both e f = rw e f

pub or_neither : (a b : Bool) → a || b ≡ false → (a ≡ false) × (b ≡ false)
or_neither true b e = (e, cc)
or_neither false b e = (refl, e)

-- whichever way a test falls
pub either : {A : Type 0} (P : A → Type 0) {x y : A} (b : Bool) → P x → P y → P (if b then x else y)
either P true p q = p
either P false p q = q

pub number_bytes : (n : ℕ) → n < 2 ^ 32 → number (bytes n) 0 ≡ n
number_bytes n h = omega arith

quotient : (r q : ℕ) → r < 256 → (r + 256 * q) / 256 ≡ q
quotient r q h = omega arith

remainder : (r q : ℕ) → r < 256 → (r + 256 * q) % 256 ≡ r
remainder r q h = omega arith

pub bytes_number :
    (a b c d : ℕ) → a < 256 → b < 256 → c < 256 → d < 256
    → bytes (number (a ∷ b ∷ c ∷ d ∷ []) 0) ≡ a ∷ b ∷ c ∷ d ∷ []
bytes_number a b c d ha hb hc hd = simp (quotient, remainder, mod-eq_of_lt)
