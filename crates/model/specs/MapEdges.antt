-- The definitions of Map at both sides of an edge, by computation: a wrong definition shows here as a wrong value.
-- Assumes nothing.
use Rattle.std.specs.Prelude.{◌≡◌, refl, true, false, [], ◌∷◌, map, set}
use Rattle.std.proofs.Math.Option.{none, some}
use Rattle.model.specs.Map.{region, inside, overlaps, no_grid, may, granted, lowest, Grid}
use Rattle.model.specs.declared.map.Domain.{Domain}
use Rattle.model.specs.declared.map.Access.{Access}

-- half open
inside_edges : map (inside (region 32 64)) (31 ∷ 32 ∷ 63 ∷ 64 ∷ []) ≡ false ∷ true ∷ true ∷ false ∷ []
inside_edges = refl

-- before and touching, one address shared at either end, one within the other, after and touching; an empty one within
overlaps_edges :
    map (overlaps (region 32 64)) (region 0 32 ∷ region 0 33 ∷ region 63 96 ∷ region 40 48 ∷ region 64 96 ∷ region 48 48 ∷ [])
    ≡ false ∷ true ∷ true ∷ true ∷ false ∷ false ∷ []
unfolding overlaps
overlaps_edges = refl

-- code 32-64, a gap, data 72-96
abbrev pub gapped : Domain
gapped = record { code = region 32 64; «data» = region 72 96; entry = 32 }

-- four bytes inside, across the end, across the gap; from code; past all
lowest_edges :
    map (λ a. lowest (may gapped Access.Write) a 4) (92 ∷ 93 ∷ 70 ∷ 60 ∷ 4294967295 ∷ [])
    ≡ none ∷ some 96 ∷ some 70 ∷ some 60 ∷ some 4294967295 ∷ []
unfolding may lowest
lowest_edges = refl

-- ten bytes whose first and last may be read, and those in the gap not
across_edges : lowest (may gapped Access.Read) 63 10 ≡ some 64
unfolding may lowest
across_edges = refl

-- domain 1 has marks for 2 and 3, of two domains
abbrev two_and_three : Grid
two_and_three = set no_grid 0 (false ∷ true ∷ true ∷ [])

granted_edges : map (granted 2 two_and_three 1) (0 ∷ 1 ∷ 2 ∷ 3 ∷ []) ≡ false ∷ false ∷ true ∷ false ∷ []
unfolding granted
granted_edges = refl
