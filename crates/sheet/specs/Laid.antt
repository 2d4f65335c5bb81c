-- What the writer's functions leave in a lent buffer.
-- Assumes nothing.
use Rattle.std.specs.Prelude.{ℕ, ◌+◌, ◌≡◌, List, ◌++◌, length, take, drop}

-- the buffer with xs from `at` on, and the rest as it was
unfoldable pub laid : ℕ → List ℕ → List ℕ → List ℕ
laid at xs buffer = take at buffer ++ (xs ++ drop (at + length xs) buffer)

-- xs was laid at `at`, and `next` is the offset past it
pub record Laid (at : ℕ) (xs before : List ℕ) (next : ℕ) (after : List ℕ) : Type 0 where
  pub past : next ≡ at + length xs
  pub same : after ≡ laid at xs before
