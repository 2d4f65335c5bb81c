-- The words that the definitions use: a choice, and little-endian numbers.
-- Assumes nothing.
use Rattle.std.specs.Prelude.{ℕ, ◌+◌, ◌*◌, ◌/◌, ◌%◌, List, [], ◌∷◌, get_or}
use Rattle.std.proofs.Math.Option.{Option, none, some}

-- b where the option is none, else what f makes of its value
abbrev pub unless : {A : Type 0} → Option ℕ → (ℕ → A) → A → A
unless none f b = b
unless (some n) f b = f n

-- "Numbers are 32-bit little-endian": the four bytes of a number, and the number whose bytes stand from i on
abbrev pub bytes : ℕ → List ℕ
bytes n = n % 256 ∷ n / 256 % 256 ∷ n / 256 / 256 % 256 ∷ n / 256 / 256 / 256 % 256 ∷ []

abbrev pub number : List ℕ → ℕ → ℕ
number b i = get_or b i 0 + 256 * (get_or b (i + 1) 0 + 256 * (get_or b (i + 2) 0 + 256 * get_or b (i + 3) 0))

-- a 16-bit one
abbrev pub half : List ℕ → ℕ → ℕ
half b i = get_or b i 0 + 256 * get_or b (i + 1) 0
