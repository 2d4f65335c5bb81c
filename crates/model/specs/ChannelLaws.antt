-- Channel records: the words of the laws in proofs/ChannelLaws.antt.
--     closing               what stands after the domains
--     Channelled            what a reading of channel records tells
-- Assumes nothing.
use Prim.Native.Nat.{ℕ, ◌*◌, ◌≤◌, ◌<◌}
use Rattle.std.specs.Prelude.{◌≡◌}
use Rattle.std.proofs.Math.Bool.{true}
use mathlib.Core.List.{List, [], ◌∷◌, ◌++◌}
use Rattle.model.specs.Map.{most, Grid}
use Rattle.model.specs.Refusals.{cell}
use Rattle.model.specs.RefusalsLaws.{cell_good}
use Rattle.model.specs.Sheet.{channel_records}
use Rattle.model.specs.GridLaws.{Square}
use Rattle.model.specs.declared.map.Map.{Map}

-- what stands after the domains
abbrev pub closing : Grid → List ℕ
closing g = channel_records g 0 (most * most) ++ (5 ∷ [])

-- ---- channel records, read and written again

-- what reading bs into acc from cell p on tells, where n cells are left and m' and g are found
pub record Channelled (m : Map) (acc : Grid) (p n : ℕ) (bs : List ℕ) (m' : Map) (g : Grid) : Type 0 where
  pub same : m' ≡ m
  pub square : Square g
  pub below : (k : ℕ) → k < p → cell g k ≡ cell acc k
  pub good : (k : ℕ) → p ≤ k → k < most * most → cell_good m.count g k ≡ true
  pub spelt : channel_records g p n ++ (5 ∷ []) ≡ bs
