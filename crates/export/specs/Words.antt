-- The words of a block, and the numbers in them.
-- Assumes nothing.
use Rattle.std.specs.Prelude.{ℕ, zero, suc, ◌+◌, ◌*◌, ◌/◌, ◌%◌, Bool, true, false, ◌&&◌, List, [], ◌∷◌, ◌++◌, eqb, get_or}

-- the first n words are the same
unfoldable pub alike : List ℕ → List ℕ → ℕ → Bool
alike xs ys zero = true
alike xs ys (suc n) = let rest = alike xs ys n in eqb (get_or xs n 0) (get_or ys n 0) && rest

-- a 64-bit number is two words, the low one first
abbrev pub low : ℕ → ℕ
low n = n % 4294967296

abbrev pub high : ℕ → ℕ
high n = n / 4294967296 % 4294967296

abbrev pub joined : ℕ → ℕ → ℕ
joined l h = l + 4294967296 * h

abbrev pub flag : Bool → ℕ
flag true = 1
flag false = 0

-- eight things in turn, and eight parts one after the other
abbrev pub eight : {A : Type 0} → (ℕ → A) → List A
eight f = f 0 ∷ f 1 ∷ f 2 ∷ f 3 ∷ f 4 ∷ f 5 ∷ f 6 ∷ f 7 ∷ []

abbrev pub parts : (ℕ → List ℕ) → List ℕ
parts f = f 0 ++ f 1 ++ f 2 ++ f 3 ++ f 4 ++ f 5 ++ f 6 ++ f 7
