-- Document 01, "Map and access".
-- Assumes nothing.
use Rattle.std.specs.Prelude.{ℕ, zero, suc, ◌+◌, ◌-◌, Bool, false, ◌&&◌, ◌||◌, List, [], leb, ltb, get_or, replicate, if◌then◌else◌}
use Rattle.std.proofs.Math.Option.{Option, none, some}
use Rattle.model.specs.declared.map.Region.{Region}
use Rattle.model.specs.declared.map.Domain.{Domain}
use Rattle.model.specs.declared.map.Map.{Map}
use Rattle.model.specs.declared.map.Access.{Access}

-- "1 to 8 domains": the limit, stated once in the definitions
abbrev pub most : ℕ
most = 8

-- "All regions are half open, begin up to but without end."
abbrev pub inside : Region → ℕ → Bool
inside r a = leb r.begin a && ltb a r.end

-- two regions share an address. "An empty region overlaps nothing."
abbrev pub filled : Region → Bool
filled r = ltb r.begin r.end

unfoldable pub overlaps : Region → Region → Bool
overlaps r q = filled r && filled q && ltb r.begin q.end && ltb q.begin r.end

abbrev pub region : ℕ → ℕ → Region
region b e = record { begin = b; end = e }

-- "Unused map entries and grid cells are zero or no."
abbrev pub nowhere : Region
nowhere = region 0 0

abbrev pub absent : Domain
absent = record { code = nowhere; «data» = nowhere; entry = 0 }

abbrev pub no_map : Map
no_map = record { length = 0; kernel = nowhere; count = 0; domains = replicate most absent }

-- "the channel grid, 8 rows of 8 yes/no marks: row f, column t says that domain f may send to domain t"
abbrev pub Grid : Type 0
Grid = List (List Bool)

abbrev pub no_grid : Grid
no_grid = replicate most (replicate most false)

abbrev pub marked : Grid → ℕ → ℕ → Bool
marked g row column = get_or (get_or g row []) column false

-- "Numbers count from 1; domain 0 means the device or nobody."
abbrev pub is_domain : ℕ → ℕ → Bool
is_domain count d = leb 1 d && leb d count

-- the map's entry after its first i, and domain d's
abbrev pub nth : Map → ℕ → Domain
nth m i = get_or m.domains i absent

abbrev pub domain : Map → ℕ → Domain
domain m d = nth m (d - 1)

-- "Domain d may read an address in its code or data, write one in its data, fetch one from its code. Nothing else."
unfoldable pub may : Domain → Access → ℕ → Bool
may d Access.Read a = inside d.code a || inside d.«data» a
may d Access.Write a = inside d.«data» a
may d Access.Fetch a = inside d.code a

unfoldable pub granted : ℕ → Grid → ℕ → ℕ → Bool
granted count g f t = is_domain count t && marked g (f - 1) (t - 1)

-- all that a map and a grid decide for one domain: every rule on access and channels goes through these two
pub record Rights : Type 0 where
  pub allows : Access → ℕ → Bool
  pub sends : ℕ → Bool

abbrev pub rights : Map → Grid → ℕ → Rights
rights m g d = record { allows = may (domain m d); sends = granted m.count g d }

-- "An access of several bytes is allowed when each byte is." "A faulted access reports the lowest denied address.":
-- of n bytes from a, the lowest that is denied, or none
unfoldable pub lowest : (ℕ → Bool) → ℕ → ℕ → Option ℕ
lowest allowed a zero = none
lowest allowed a (suc n) = let rest = lowest allowed (a + 1) n in if allowed a then rest else some a
