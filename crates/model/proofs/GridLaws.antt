-- Laws of the grid: its shape, its cells and its marks.
--     Shaped                what the array types give of a map and a grid; Square is the grid's part
--     channel_count         the number of marked cells; channel_most: at most 56
--     grid_equal            two grids with the same cells are equal
--     from_place, to_place, place_ends   a cell's place and its two ends
--     mark_there, mark_elsewhere   what a mark changes
-- Assumes nothing.
use Rattle.std.specs.Prelude.{ℕ, zero, suc, ◌+◌, ◌-◌, ◌*◌, ◌/◌, ◌%◌, ◌≤◌, ◌<◌, ◌≡◌, refl, ◌≢◌, Bool, true, false, ◌&&◌, not, List, [], eqb, length, get_or, set, replicate}
use Rattle.std.proofs.Common.{sym, ap, ◌∙◌, arith, length-set, get_or-set_same, get_or-set_other, ext_get_or, eqb-true}
use Rattle.std.proofs.lemmas.List.{get_or-replicate}
use Rattle.std.proofs.lemmas.Bool.{eqb-false, not-true}
use Rattle.model.proofs.BasicsLaws.{by_bool, and_left, and_right}
use Rattle.model.specs.Map.{most, Grid, no_grid, marked, is_domain}
use Rattle.model.proofs.MapLaws.{in_range}
use Rattle.model.specs.Refusals.{cell, from, to, is_channel}
use Rattle.model.specs.RefusalsLaws.{cell_good}
use Rattle.model.specs.Sheet.{place, mark}
use Rattle.model.specs.declared.map.Map.{Map}
use Rattle.model.specs.GridLaws.{Square, Shaped, marks, channel_count, pairs, Unmarked, Ends}

pub square : {m : Map} {g : Grid} → Shaped m g → Square g
square s = record { rows = s.rows; columns = s.columns }

marks_pairs :
    (count : ℕ) (g : Grid) (p n : ℕ) → ((k : ℕ) → p ≤ k → k < p + n → cell_good count g k ≡ true) → marks g p n ≤ pairs p n
unfolding marks pairs
marks_pairs count g p zero good = omega arith
marks_pairs count g p (suc n) good =
    let rest = marks_pairs count g (p + 1) n (λ k a b. good k (omega arith) (omega arith)) in
    by_bool (cell g p)
    (λ e.
    let c = rw e at (good p (omega arith) (omega arith)) in
    let d = and_right (is_domain count (from p) && is_domain count (to p)) (not (eqb (from p) (to p))) c in
    rw (e, not-true (eqb (from p) (to p)) d) (omega arith))
    (λ e. by_bool (eqb (from p) (to p)) (λ d. rw (e, d) rest) (λ d. rw (e, d) (omega arith)))

pub channel_most :
    (count : ℕ) (g : Grid) → ((k : ℕ) → k < most * most → cell_good count g k ≡ true) → channel_count g ≤ 56
unfolding channel_count pairs
channel_most count g good = marks_pairs count g 0 (most * most) (λ k a b. good k b)

-- ---- cells

marked_cell : (g : Grid) (i j : ℕ) → j < most → marked g i j ≡ cell g (i * most + j)
marked_cell g i j h =
    let r : (i * most + j) / most ≡ i = omega arith in
    let c : (i * most + j) % most ≡ j = omega arith in
    rw (r, c)

pub grid_equal : (g h : Grid) → Square g → Square h → ((p : ℕ) → p < most * most → cell g p ≡ cell h p) → g ≡ h
grid_equal g h s t e =
    ext_get_or [] g h (s.rows ∙ sym t.rows) (λ i a.
    let b : i < most = omega (arith, s.rows) in
    ext_get_or false (get_or g i []) (get_or h i []) (s.columns i b ∙ sym (t.columns i b)) (λ j c.
    let d : j < most = omega (arith, s.columns i b) in
    marked_cell g i j d ∙ e (i * most + j) (omega arith) ∙ sym (marked_cell h i j d)))

pub no_grid_unmarked : Unmarked no_grid 0 (most * most)
no_grid_unmarked p l h =
    ap (λ (r : List Bool). get_or r (p % most) false) (get_or-replicate most (p / most) (replicate most false) [] (omega arith))
    ∙ get_or-replicate most (p % most) false false (omega arith)

pub no_grid_square : Square no_grid
no_grid_square =
    record {
      rows = refl;
      columns = λ i h. ap length (get_or-replicate most i (replicate most false) [] h);
    }

-- ---- marks

pub channel_ends : (n f t : ℕ) → is_channel n f t ≡ true → Ends n f t
channel_ends n f t e =
    let d = and_left (is_domain n f && is_domain n t) (not (eqb f t)) e in
    let a = in_range n f (and_left _ (is_domain n t) d) in
    let b = in_range n t (and_right (is_domain n f) _ d) in
    record { from_low = a.0; from_high = a.1; to_low = b.0; to_high = b.1 }

pub from_place : (f t : ℕ) → Ends most f t → from (place f t) ≡ f
from_place f t e = omega arith

pub to_place : (f t : ℕ) → Ends most f t → to (place f t) ≡ t
to_place f t e = omega arith

pub place_ends : (p : ℕ) → place (from p) (to p) ≡ p
place_ends p = omega arith

module _ (g : Grid) (s : Square g) (f t : ℕ) (e : Ends most f t) where
  row : get_or (mark g f t) (f - 1) [] ≡ set (get_or g (f - 1) []) (t - 1) true
  row = get_or-set_same g (f - 1) (set (get_or g (f - 1) []) (t - 1) true) [] (omega (arith, s.rows))

  other_row : (i : ℕ) → i ≢ f - 1 → get_or (mark g f t) i [] ≡ get_or g i []
  other_row i n = get_or-set_other g (f - 1) i (set (get_or g (f - 1) []) (t - 1) true) [] n

  pub mark_square : Square (mark g f t)
  mark_square =
      record {
        rows = length-set g (f - 1) (set (get_or g (f - 1) []) (t - 1) true) ∙ s.rows;
        columns = λ i h. by_bool (eqb i (f - 1))
            (λ q. rw (eqb-true i (f - 1) q, row, length-set) (s.columns (f - 1) (omega arith)))
            (λ q. rw (other_row i (eqb-false i (f - 1) q)) (s.columns i h));
      }

  pub mark_there : cell (mark g f t) (place f t) ≡ true
  mark_there =
      sym (marked_cell (mark g f t) (f - 1) (t - 1) (omega arith))
      ∙ ap (λ (r : List Bool). get_or r (t - 1) false) row
      ∙ get_or-set_same (get_or g (f - 1) []) (t - 1) true false (omega (arith, s.columns (f - 1) (omega arith)))

  pub mark_elsewhere : (p : ℕ) → p ≢ place f t → cell (mark g f t) p ≡ cell g p
  mark_elsewhere p n =
      by_bool (eqb (p / most) (f - 1))
      (λ q. let r = eqb-true (p / most) (f - 1) q in
      rw (r, row) (get_or-set_other (get_or g (f - 1) []) (t - 1) (p % most) true false (omega arith)))
      (λ q. ap (λ (r : List Bool). get_or r (p % most) false) (other_row (p / most) (eqb-false _ _ q)))
