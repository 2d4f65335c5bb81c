-- What the types say of a map and a grid: eight entries, eight rows of eight.
-- Assumes nothing.
use Prim.Native.Nat.{ℕ, zero, suc, ◌<◌}
use mathlib.Core.Path.{◌≡◌}
use mathlib.Core.Bool.{Bool}
use mathlib.Core.List.{List, [], ◌∷◌}
use native.Mathlib.Omega.{arith}
use lib.ListN.{length, get_or}
use mir.Val.{Val}
use denote.Array.{Array, each}
use denote.Laws.{Is}
use denote.Plain.{Boolean}
use denote.Shadow.{shadow}
use denote.Struct.Declared.{row}
use Rattle.model.specs.Map.{most, Grid}
use Rattle.model.specs.GridLaws.{Shaped}
use Rattle.model.specs.declared.map.Map.{Map}
use Rattle.model.specs.contracts.map.Map as stored

rows_long :
    (g : Grid) (us : List Val) → shadow (each (List Bool) (Array Boolean most).own_val g us)
    → (i : ℕ) → i < length g → length (get_or g i []) ≡ most
rows_long [] us p i h = absurd (omega arith)
rows_long (x ∷ g) [] p i h = absurd p
rows_long (x ∷ g) (u ∷ us) p zero h = p.0.1.0.1
rows_long (x ∷ g) (u ∷ us) p (suc i) h = rows_long g us p.1 i (omega arith)

pub shaped :
    (m : Map) (g : Grid) (vs ws : List Val) → Is (row stored.the_type) m vs → Is (Array (Array Boolean most) most) g ws → Shaped m g
shaped m g vs ws p q =
    record {
      domains = p.1.1.1.1.1.0.1.0.1;
      rows = q.1.0.1;
      columns = λ i h. rows_long g q.0 q.1.1 i (omega (arith, q.1.0.1));
    }
