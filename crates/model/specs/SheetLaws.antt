-- A run of domain records: the words of the laws in proofs/SheetLaws.antt.
--     Agree                 two maps that give the same verdict on a domain
--     Reading, Domained     a map while it is read, and what a reading of domain records tells
-- Assumes nothing.
use Prim.Native.Nat.{ℕ, ◌+◌, ◌*◌, ◌≤◌, ◌<◌}
use Rattle.std.specs.Prelude.{◌≡◌, true}
use mathlib.Core.List.{List, ◌++◌}
use Rattle.std.proofs.Math.ListN.{length}
use Rattle.model.specs.Map.{most, absent, Grid, nth}
use Rattle.model.specs.RefusalsLaws.{DomainAccepted, cell_good}
use Rattle.model.specs.Sheet.{domain_records}
use Rattle.model.specs.GridLaws.{Square}
use Rattle.model.specs.ChannelLaws.{closing}
use Rattle.model.specs.declared.map.Map.{Map}

-- ---- a verdict on a domain turns on what stands before it alone

pub record Agree (i : ℕ) (m q : Map) : Type 0 where
  pub length : m.length ≡ q.length
  pub kernel : m.kernel ≡ q.kernel
  pub before : (k : ℕ) → k < i → nth m k ≡ nth q k

-- ---- domain records, written and read back

-- a map while it is read: entries past the count are absent
pub record Reading (q : Map) : Type 0 where
  pub size : length q.domains ≡ most
  pub after : (k : ℕ) → q.count ≤ k → k < most → nth q k ≡ absent

-- ---- domain records, read and written again

-- what reading bs into q tells, where m and g are found: n more domains
pub record Domained (q : Map) (bs : List ℕ) (m : Map) (g : Grid) : Type 0 where
  pub n : ℕ
  pub total : q.count + n ≡ m.count
  pub some : 1 ≤ m.count
  pub few : m.count ≤ most
  pub agree : Agree q.count m q
  pub reading : Reading m
  pub each : (k : ℕ) → q.count ≤ k → k < m.count → DomainAccepted m k
  pub square : Square g
  pub channels : (p : ℕ) → p < most * most → cell_good m.count g p ≡ true
  pub spelt : domain_records m q.count n ++ closing g ≡ bs
