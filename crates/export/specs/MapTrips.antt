-- What one call writes, the next one reads: a map of eight entries, its count in a byte, and a grid of eight rows of eight are read back from
-- their words as they were.
-- Assumes nothing.
use Rattle.std.specs.Prelude.{ℕ, ◌<◌, ◌≡◌, refl, Bool, true, false, not, List, [], eqb, length, get_or}
use Rattle.std.proofs.Common.{ap, ◌∙◌, lt-ltb}
use Rattle.model.specs.Map.{most, nth, absent, Grid}
use Rattle.model.specs.GridLaws.{Square}
use Rattle.model.specs.declared.map.Domain.{Domain}
use Rattle.model.specs.declared.map.Map.{Map}
use Rattle.export.specs.Words.{flag, eight}
use Rattle.export.specs.WordsLaws.{eight_again, eight_same}
use Rattle.export.specs.MapWords.{capped, map_of, map_words, grid_of, grid_bytes}

abbrev with_parts : Map → ℕ → List Domain → Map
with_parts m n ds = record { length = m.length; kernel = m.kernel; count = n; domains = ds }

words_read : (m : Map) → map_of (map_words m) ≡ with_parts m (capped m.count) (eight (nth m))
unfolding map_of map_words
words_read m = refl

capped_again : (n : ℕ) → n < 256 → capped n ≡ n
capped_again n h = rw (lt-ltb n 256 h)

pub map_again : (m : Map) → m.count < 256 → length m.domains ≡ most → map_of (map_words m) ≡ m
map_again m c l =
    words_read m
    ∙ ap (λ n. with_parts m n (eight (nth m))) (capped_again m.count c)
    ∙ ap (with_parts m m.count) (eight_again m.domains absent l)

mark_again : (b : Bool) → not (eqb (flag b) 0) ≡ b
mark_again true = refl
mark_again false = refl

abbrev row_again : List Bool → List Bool
row_again r = eight (λ t. not (eqb (flag (get_or r t false)) 0))

bytes_read : (g : Grid) → grid_of (grid_bytes g) ≡ eight (λ f. row_again (get_or g f []))
unfolding grid_of grid_bytes
bytes_read g = refl

row_same : (r : List Bool) → length r ≡ 8 → row_again r ≡ r
row_same r l = eight_same _ _ (λ t h. mark_again (get_or r t false)) ∙ eight_again r false l

pub grid_again : (g : Grid) → Square g → grid_of (grid_bytes g) ≡ g
grid_again g s = bytes_read g ∙ eight_same _ _ (λ f h. row_same (get_or g f []) (s.columns f h)) ∙ eight_again g [] s.rows
