-- A map as 44 words: length, kernel, count, then five a domain. A grid as 64 bytes, row by row.
-- Assumes nothing.
use Rattle.std.specs.Prelude.{ℕ, ◌+◌, ◌*◌, Bool, false, not, List, [], ◌∷◌, ◌++◌, ltb, eqb, get_or, if◌then◌else◌}
use Rattle.model.specs.Map.{region, nth, Grid}
use Rattle.model.specs.declared.map.Region.{Region}
use Rattle.model.specs.declared.map.Domain.{Domain}
use Rattle.model.specs.declared.map.Map.{Map}
use Rattle.export.specs.Words.{flag, eight, parts}

abbrev pub region_at : List ℕ → ℕ → Region
region_at w at = region (get_or w at 0) (get_or w (at + 1) 0)

abbrev pub domain_from : List ℕ → ℕ → Domain
domain_from w at = record { code = region_at w at; «data» = region_at w (at + 2); entry = get_or w (at + 4) 0 }

abbrev pub domain_at : List ℕ → ℕ → Domain
domain_at w i = domain_from w (4 + 5 * i)

-- a count that no byte holds is read as 255, which is refused just as well
abbrev pub capped : ℕ → ℕ
capped n = if ltb n 256 then n else 255

unfoldable pub map_of : List ℕ → Map
map_of w =
    record { length = get_or w 0 0; kernel = region_at w 1; count = capped (get_or w 3 0); domains = eight (domain_at w) }

abbrev pub domain_words : Domain → List ℕ
domain_words d = d.code.begin ∷ d.code.end ∷ d.«data».begin ∷ d.«data».end ∷ d.entry ∷ []

abbrev pub head_words : Map → List ℕ
head_words m = m.length ∷ m.kernel.begin ∷ m.kernel.end ∷ m.count ∷ []

unfoldable pub map_words : Map → List ℕ
map_words m = head_words m ++ parts (λ i. domain_words (nth m i))

abbrev pub mark_at : List ℕ → ℕ → ℕ → Bool
mark_at b f t = not (eqb (get_or b (8 * f + t) 0) 0)

abbrev pub row_at : List ℕ → ℕ → List Bool
row_at b f = eight (mark_at b f)

unfoldable pub grid_of : List ℕ → Grid
grid_of b = eight (row_at b)

abbrev pub row_bytes : List Bool → List ℕ
row_bytes r = eight (λ t. flag (get_or r t false))

unfoldable pub grid_bytes : Grid → List ℕ
grid_bytes g = parts (λ f. row_bytes (get_or g f []))
