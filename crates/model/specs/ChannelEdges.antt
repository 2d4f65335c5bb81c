-- The definitions of Sheet: channel records at both sides of an edge, by computation: a wrong definition shows here as a wrong value.
-- Assumes nothing.
use Rattle.std.specs.Prelude.{◌≡◌, refl, [], ◌∷◌, map, replicate}
use Rattle.model.specs.Map.{region, most, absent, no_grid}
use Rattle.model.specs.Sheet.{Found, mark, channels_read}
use Rattle.model.specs.declared.map.Map.{Map}
use Rattle.model.specs.declared.refusal.Refusal.{Refusal}

-- a channel again is not above the one before
abbrev two_domains : Map
two_domains = record { length = 256; kernel = region 0 0; count = 2; domains = replicate most absent }

channels_edges :
    map (channels_read 0 two_domains 0 no_grid)
    ((4 ∷ 1 ∷ 2 ∷ 4 ∷ 2 ∷ 1 ∷ 5 ∷ []) ∷ (4 ∷ 1 ∷ 2 ∷ 4 ∷ 1 ∷ 2 ∷ 5 ∷ []) ∷ (4 ∷ 1 ∷ 3 ∷ 5 ∷ []) ∷ (4 ∷ 1 ∷ []) ∷ (5 ∷ 0 ∷ []) ∷ [])
    ≡ Found.whole two_domains (mark (mark no_grid 1 2) 2 1)
    ∷ Found.refused Refusal.Channel 3 ∷ Found.refused Refusal.Channel 0 ∷ Found.refused Refusal.Short 0
    ∷ Found.refused Refusal.Trailing 1 ∷ []
unfolding channels_read
channels_edges = refl
