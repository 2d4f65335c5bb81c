-- The round that a switch goes: the words of the laws in proofs/SwitchLaws.antt.
--     walk, Ahead, Nearest  where the round leads, and what it finds first
-- Assumes nothing.
use Rattle.std.specs.Prelude.{ℕ, zero, suc, ◌≤◌, ◌<◌, ◌≡◌, ◌≢◌}
use Rattle.model.specs.States.{after}

-- ---- the round: "the first ready domain after the active one, going round and ending at itself"

-- the domain j places after a
unfoldable pub walk : ℕ → ℕ → ℕ → ℕ
walk count a zero = a
walk count a (suc j) = walk count (after count a) j

-- a domain lies ahead, and nearer than a whole round where it is not the one that the round starts from
pub record Ahead (count a d : ℕ) : Type 0 where
  pub far : ℕ
  pub some : 1 ≤ far
  pub whole : far ≤ count
  pub short : 1 ≤ a → a ≢ d → far < count
  pub meets : walk count a far ≡ d

-- what a search of n places finds first lies at or before whatever is ready within them
pub record Nearest (count a j found : ℕ) : Type 0 where
  pub near : ℕ
  pub some : 1 ≤ near
  pub before : near ≤ j
  pub at : found ≡ walk count a near
