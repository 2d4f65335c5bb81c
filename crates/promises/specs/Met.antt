-- The premises of the promises can be met: Case L's map, grid, start and memory meet them, and a wider map than Case L's exists.
-- Assumes nothing.
use Rattle.std.specs.Prelude.{ℕ, zero, suc, ◌≤◌, ◌≡◌, refl, Bool, true, ◌&&◌, List, [], ◌∷◌, leb, ltb, replicate, take}
use Rattle.std.proofs.Common.{arith, ltb-true, leb-true}
use Rattle.model.proofs.BasicsLaws.{by_bool, and_left, and_right}
use Rattle.model.specs.Map.{region, absent, inside, Grid, no_grid, domain, is_domain, may, granted}
use Rattle.model.proofs.MapLaws.{inside_from, inside_below, inside_between}
use Rattle.model.specs.Sheet.{mark, sheet_bytes}
use Rattle.model.specs.GridLaws.{Shaped}
use Rattle.model.proofs.GridLaws.{no_grid_square, mark_square}
use Rattle.model.specs.RecordLaws.{Octets}
use Rattle.model.specs.States.{start}
use Rattle.model.specs.Whole.{whole}
use Rattle.model.specs.declared.map.Domain.{Domain}
use Rattle.model.specs.declared.map.Map.{Map}
use Rattle.model.specs.declared.map.Access.{Access}
use Rattle.model.specs.declared.event.Event.{Event}
use Rattle.promises.specs.CaseL.{one, L_map, L_grid, L_memory, L_acceptable}
use Rattle.promises.specs.Public.{Call}
use Rattle.promises.specs.Tests.{Ruling, ruling, tests}
use Rattle.promises.specs.Wider.{Wider}

one_or_two : (P : ℕ → Type 0) → P 1 → P 2 → (d : ℕ) → 1 ≤ d → d ≤ 2 → P d
one_or_two P p q zero l h = absurd (omega arith)
one_or_two P p q (suc zero) l h = p
one_or_two P p q (suc (suc zero)) l h = q
one_or_two P p q (suc (suc (suc d))) l h = absurd (omega arith)

-- Case L's map with a longer data sub-region for domain 2 and a channel from 2 to 1
abbrev pub roomier : Domain
roomier = record { code = region 96 128; «data» = region 128 192; entry = 96 }

abbrev pub L_wide : Map
L_wide = record { length = 256; kernel = region 0 32; count = 2; domains = one ∷ roomier ∷ replicate 6 absent }

abbrev pub L_wide_grid : Grid
L_wide_grid = mark L_grid 2 1

data_longer : (a : ℕ) → inside (region 128 160) a ≡ true → inside (region 128 192) a ≡ true
data_longer a e =
    inside_between (region 128 192) a (inside_from (region 128 160) a e)
    (let h = inside_below (region 128 160) a e in omega arith)

second_wider : (k : Access) (a : ℕ) → may (domain L_map 2) k a ≡ true → may (domain L_wide 2) k a ≡ true
unfolding may
second_wider Access.Read a e =
    by_bool (inside (region 96 128) a) (λ t. rw t) (λ f. let h = rw f at e in rw f (data_longer a h))
second_wider Access.Write a e = data_longer a e
second_wider Access.Fetch a e = e

second_sends : (t : ℕ) → granted 2 L_grid 2 t ≡ true → granted 2 L_wide_grid 2 t ≡ true
unfolding granted
second_sends t e =
    let h = and_left (is_domain 2 t) _ e in
    one_or_two (λ t. granted 2 L_grid 2 t ≡ true → granted 2 L_wide_grid 2 t ≡ true) (λ x. refl) (λ x. x) t
    (leb-true 1 t (and_left (leb 1 t) _ h)) (leb-true t 2 (and_right (leb 1 t) _ h)) e

pub L_wider : Wider L_map L_grid L_wide L_wide_grid
unfolding whole
L_wider =
    record {
      first = L_acceptable;
      second = refl;
      length = refl;
      count = refl;
      entries = one_or_two (λ d. (domain L_map d).entry ≡ (domain L_wide d).entry) refl refl;
      access =
          one_or_two (λ d. (k : Access) (a : ℕ) → may (domain L_map d) k a ≡ true → may (domain L_wide d) k a ≡ true)
          (λ k a e. e) second_wider;
      channel =
          one_or_two (λ d. (t : ℕ) → granted 2 L_grid d t ≡ true → granted 2 L_wide_grid d t ≡ true) (λ t e. e) second_sends;
    }

-- what the sheet's round trips ask of a map and a grid, and of bytes
pub L_shaped : Shaped L_map L_grid
L_shaped =
    let g = mark_square no_grid no_grid_square 1 2 (omega arith) in
    record { domains = refl; rows = g.rows; columns = g.columns }

below_256 : List ℕ → Bool
below_256 [] = true
below_256 (b ∷ rest) = ltb b 256 && below_256 rest

octets : (s : List ℕ) → below_256 s ≡ true → Octets s
unfolding below_256
octets [] e i = omega arith
octets (b ∷ rest) e zero = ltb-true b 256 (and_left (ltb b 256) _ e)
octets (b ∷ rest) e (suc i) = octets rest (and_right (ltb b 256) _ e) i

pub L_octets : Octets (sheet_bytes L_map L_grid)
unfolding whole below_256
L_octets = octets (sheet_bytes L_map L_grid) refl

-- ---- a call that passes all its tests, and calls that do not

abbrev step_on : List ℕ → Call
step_on memory = Call.happening L_map L_grid (start L_map) memory Event.Step

abbrev cut : ℕ → Call
cut n = Call.reading (take n (sheet_bytes L_map L_grid))

pub L_ruled :
    (ruling (tests (step_on L_memory)) ≡ Ruling.accepted)
    × (ruling (tests (step_on (take 255 L_memory))) ≡ Ruling.refused 9 0)
    × (ruling (tests (cut 60)) ≡ Ruling.accepted)
    × (ruling (tests (cut 59)) ≡ Ruling.refused 1 59)
unfolding whole
L_ruled = (refl, refl, refl, refl)
