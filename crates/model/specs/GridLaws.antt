-- The grid's shape, its cells and its marks: the words of the laws in proofs/GridLaws.antt.
--     Shaped                what the array types give of a map and a grid; Square is the grid's part
--     channel_count         the number of marked cells
-- Assumes nothing.
use Rattle.std.specs.Prelude.{ℕ, zero, suc, ◌+◌, ◌*◌, ◌≤◌, ◌<◌, ◌≡◌, false, [], eqb, length, get_or, if◌then◌else◌}
use Rattle.model.specs.Map.{most, Grid}
use Rattle.model.specs.Refusals.{cell, from, to}
use Rattle.model.specs.declared.map.Map.{Map}

pub record Square (g : Grid) : Type 0 where
  pub rows : length g ≡ most
  pub columns : (i : ℕ) → i < most → length (get_or g i []) ≡ most

pub record Shaped (m : Map) (g : Grid) : Type 0 where
  pub domains : length m.domains ≡ most
  pub rows : length g ≡ most
  pub columns : (i : ℕ) → i < most → length (get_or g i []) ≡ most

-- the number of marks in n cells, from the p-th on, and in the whole grid
unfoldable pub marks : Grid → ℕ → ℕ → ℕ
marks g p zero = 0
marks g p (suc n) = let rest = marks g (p + 1) n in if cell g p then suc rest else rest

unfoldable pub channel_count : Grid → ℕ
channel_count g = marks g 0 (most * most)

-- a domain has no channel to itself, so a good grid has no more marks than it has cells off the diagonal
unfoldable pub pairs : ℕ → ℕ → ℕ
pairs p zero = 0
pairs p (suc n) = let rest = pairs (p + 1) n in if eqb (from p) (to p) then rest else suc rest

-- the cells from p on and below q have no mark
abbrev pub Unmarked : Grid → ℕ → ℕ → Type 0
Unmarked g p q = (k : ℕ) → p ≤ k → k < q → cell g k ≡ false

-- ---- marks

-- the two ends of a channel are numbers from 1 to n
pub record Ends (n f t : ℕ) : Type 0 where
  pub from_low : 1 ≤ f
  pub from_high : f ≤ n
  pub to_low : 1 ≤ t
  pub to_high : t ≤ n
