-- Laws of Sheet: channel records.
--     channels_length       how many bytes they are
--     not_refused, judged_known   what a whole reading tells of its parts
--     channels_back         written and read back, they give the grid that they were written from
--     channels_known        what a reading of them tells: written again, they are the bytes that were read
-- Assumes nothing.
use Prim.Native.Nat.{ℕ, zero, suc, ◌+◌, ◌-◌, ◌*◌, ◌≤◌, ◌<◌}
use Rattle.std.specs.Prelude.{◌≡◌, refl, false, leb, ltb, eqb, length, Ok, Err}
use Rattle.std.proofs.Common.{sym, ◌∙◌, arith, ltb-true, ltb-false, leb-true, le-leb, eqb-true}
use Rattle.std.proofs.Math.Path.{ap}
use Rattle.std.proofs.Math.Bool.{true}
use mathlib.Core.List.{List, [], ◌∷◌, ◌++◌}
use Rattle.model.proofs.BasicsLaws.{by_bool, and_left, and_right, and_both}
use Rattle.model.specs.Map.{most, Grid, no_grid}
use Rattle.model.specs.Refusals.{check, cell, from, to, is_channel}
use Rattle.model.specs.RefusalsLaws.{cell_good}
use Rattle.model.proofs.RefusalsLaws.{check_true}
use Rattle.model.specs.Sheet.{Found, judged, four_or_five, place, rising, mark, channel_records, channels_read}
use Rattle.model.specs.GridLaws.{Square, Ends, Unmarked, marks}
use Rattle.model.proofs.GridLaws.{no_grid_square, no_grid_unmarked, channel_ends, grid_equal, from_place, to_place, place_ends, mark_square, mark_there, mark_elsewhere}
use Rattle.model.specs.declared.map.Map.{Map}
use Rattle.model.specs.declared.refusal.Refusal.{Refusal}
use Rattle.model.specs.Answers.{Verdict}
use Rattle.model.specs.ChannelLaws.{closing, Channelled}

pub channels_length : (g : Grid) (p n : ℕ) → length (channel_records g p n) ≡ 3 * marks g p n
unfolding channel_records marks
channels_length g p zero = refl
channels_length g p (suc n) =
    let h = channels_length g (p + 1) n in by_bool (cell g p) (λ e. rw e (omega arith)) (λ e. rw e h)

-- ---- channel records, written and read

-- a grid while it is read: as g below cell p, and all no from there on
record Partly (g acc : Grid) (p : ℕ) : Type 0 where
  below : (k : ℕ) → k < p → cell acc k ≡ cell g k
  above : Unmarked acc p (most * most)

-- what holds below p and at p holds below p + 1
pub one_more : {P : ℕ → Type 0} (p : ℕ) → ((k : ℕ) → k < p → P k) → P p → (k : ℕ) → k < p + 1 → P k
one_more {P} p h e k b =
    by_bool (ltb k p) (λ q. h k (ltb-true k p q)) (λ q. let d : p ≡ k = omega (arith, ltb-false k p q) in rw d at e)

partly_mark :
    (g acc : Grid) (p : ℕ) → Square acc → p < most * most → Partly g acc p → cell g p ≡ true
    → Partly g (mark acc (from p) (to p)) (p + 1)
partly_mark g acc p s h a e =
    let other = mark_elsewhere acc s (from p) (to p) (omega arith) in
    record {
      below = one_more p (λ k b. other k (omega arith) ∙ a.below k b)
          ((rw place_ends at (mark_there acc s (from p) (to p) (omega arith))) ∙ sym e);
      above = λ k b c. other k (omega arith) ∙ a.above k (omega arith) c;
    }

partly_skip : (g acc : Grid) (p : ℕ) → p < most * most → Partly g acc p → cell g p ≡ false → Partly g acc (p + 1)
partly_skip g acc p h a e =
    record {
      below = one_more p a.below (a.above p (omega arith) h ∙ sym e);
      above = λ k b c. a.above k (omega arith) c;
    }

module _ (g : Grid) (s : Square g) (m : Map) (good : (k : ℕ) → k < most * most → cell_good m.count g k ≡ true) where
  rises : (p q : ℕ) → p < most * most → q ≤ p → cell g p ≡ true → rising m.count q (from p) (to p) ≡ true
  rises p q h l e =
      let c : is_channel m.count (from p) (to p) ≡ true = rw e at (good p h) in
      and_both c (omega (arith, le-leb))

  cells_back :
      (p n at q : ℕ) (acc : Grid) → p + n ≡ most * most → q ≤ p → Square acc → Partly g acc p
      → channels_read at m q acc (channel_records g p n ++ (5 ∷ [])) ≡ Found.whole m g
  unfolding channel_records channels_read
  cells_back p zero at q acc h l t a =
      ap (Found.whole m) (grid_equal acc g t s (λ k b. a.below k (omega arith)))
  cells_back p (suc n) at q acc h l t a =
      by_bool (cell g p)
      (λ e. rw (e, rises p q (omega arith) l e)
      (cells_back (p + 1) n (at + 3) (place (from p) (to p) + 1) (mark acc (from p) (to p)) (omega arith) (omega arith)
      (mark_square acc t (from p) (to p) (omega arith)) (partly_mark g acc p t (omega arith) a e)))
      (λ e. rw e
      (cells_back (p + 1) n at q acc (omega arith) (omega arith) t (partly_skip g acc p (omega arith) a e)))

  pub channels_back : (at : ℕ) → channels_read at m 0 no_grid (closing g) ≡ Found.whole m g
  channels_back at =
      cells_back 0 (most * most) at 0 no_grid refl (omega arith) no_grid_square
      (record { below = λ k b. absurd (omega arith); above = no_grid_unmarked })

-- ---- channel records, read and written again

-- cells without a mark have no record
skip :
    (g : Grid) (p n q r : ℕ) → p + n ≡ q + r → p ≤ q → Unmarked g p q
    → channel_records g p n ≡ channel_records g q r
unfolding channel_records
skip g p zero q zero h l e = refl
skip g p zero q (suc r) h l e = absurd (omega arith)
skip g p (suc n) q r h l e =
    by_bool (ltb p q)
    (λ b. let c = ltb-true p q b in
    rw (e p (omega arith) c) (skip g (p + 1) n q r (omega arith) (omega arith) (λ k i j. e k (omega arith) j)))
    (λ b. let c = ltb-false p q b in
    let x : q ≡ p = omega arith in let y : r ≡ suc n = omega arith in rw (x, y))

pub not_refused : {A : Type 0} (r : Refusal) (at : ℕ) (m : Map) (g : Grid) → Found.refused r at ≡ Found.whole m g → A
not_refused r at m g e = let z : ◌≡◌ {A = ℕ} 0 1 = cc in absurd (omega arith)

pub judged_known :
    (at : ℕ) (v : Verdict) (go : Found) (m : Map) (g : Grid) → judged at v go ≡ Found.whole m g
    → (v ≡ Ok tt) × (go ≡ Found.whole m g)
judged_known at (Ok tt) go m g e = (refl, e)
judged_known at (Err r) go m g e = not_refused r at m g e

kind_known :
    {A : Type 0} (at k : ℕ) (four five : Found) (m : Map) (g : Grid) → four_or_five at k four five ≡ Found.whole m g
    → (k ≡ 4 → four ≡ Found.whole m g → A) → (k ≡ 5 → five ≡ Found.whole m g → A) → A
kind_known at k four five m g e x y =
    by_bool (eqb k 4) (λ q. x (eqb-true k 4 q) (rw q at e)) (λ q.
    by_bool (eqb k 5) (λ r. y (eqb-true k 5 r) (rw (q, r) at e)) (λ r. not_refused Refusal.Kind at m g (rw (q, r) at e)))

module _ (m : Map) (few : m.count ≤ most) (m' : Map) (g : Grid) where
  ended :
      (acc : Grid) (p n k : ℕ) → p + n ≡ most * most → Square acc → Unmarked acc p (most * most)
      → k ≡ 5 → Found.whole m acc ≡ Found.whole m' g → Channelled m acc p n (k ∷ []) m' g
  unfolding channel_records
  ended acc p n k h s void e w =
      let x : acc ≡ g = cc in
      rw (e, ← x)
      record {
        same = cc;
        square = s;
        below = λ k b. refl;
        good = λ k b c. rw (void k b c);
        spelt = rw (skip acc p n (most * most) 0 (omega arith) (omega arith) void);
      }

  ends_known : (f t : ℕ) → is_channel m.count f t ≡ true → Ends most f t
  ends_known f t c =
      let e = channel_ends m.count f t c in
      record { from_low = e.from_low; from_high = omega arith; to_low = e.to_low; to_high = omega arith }

  marked_then :
      (acc : Grid) (p f t n n' : ℕ) (rest : List ℕ) → Square acc → Unmarked acc p (most * most)
      → is_channel m.count f t ≡ true → p ≤ place f t → p + n ≡ most * most → place f t + 1 + n' ≡ most * most
      → Channelled m (mark acc f t) (place f t + 1) n' rest m' g → Channelled m acc p n (4 ∷ f ∷ t ∷ rest) m' g
  unfolding channel_records
  marked_then acc p f t n n' rest s void x l h h' c =
      let e = ends_known f t x in
      let there : cell g (place f t) ≡ true = c.below (place f t) (omega arith) ∙ mark_there acc s f t e in
      let before : (k : ℕ) → k < place f t → cell g k ≡ cell acc k =
      λ k b. c.below k (omega arith) ∙ mark_elsewhere acc s f t e k (omega arith) in
      let none : Unmarked g p (place f t) = λ k a b. before k b ∙ void k a (omega arith) in
      record {
        same = c.same;
        square = c.square;
        below = λ k b. before k (omega arith);
        good = λ k a b. by_bool (ltb k (place f t + 1))
            (λ q. one_more {P = λ k. p ≤ k → cell_good m.count g k ≡ true} (place f t) (λ k b a. rw (none k a b))
            (λ a. rw (there, from_place f t e, to_place f t e) x) k (ltb-true k (place f t + 1) q) a)
            (λ q. c.good k (ltb-false k (place f t + 1) q) b);
        spelt = ap (λ (l : List ℕ). l ++ (5 ∷ [])) (skip g p n (place f t) (suc n') (omega arith) l none)
            ∙ rw (there, from_place f t e, to_place f t e) (ap (λ (l : List ℕ). 4 ∷ f ∷ t ∷ l) c.spelt);
      }

  cells_known :
      (at p n : ℕ) (acc : Grid) (bs : List ℕ) → p + n ≡ most * most → Square acc → Unmarked acc p (most * most)
      → channels_read at m p acc bs ≡ Found.whole m' g → Channelled m acc p n bs m' g
  unfolding channels_read
  cells_known at p n acc [] h s void e = not_refused Refusal.Short at m' g e
  cells_known at p n acc (k ∷ []) h s void e =
      kind_known at k _ _ m' g e (λ q w. not_refused Refusal.Short at m' g w) (ended acc p n k h s void)
  cells_known at p n acc (k ∷ f ∷ []) h s void e =
      kind_known at k _ _ m' g e
      (λ q w. not_refused Refusal.Short at m' g w) (λ q w. not_refused Refusal.Trailing (at + 1) m' g w)
  cells_known at p n acc (k ∷ f ∷ t ∷ rest) h s void e =
      kind_known at k _ _ m' g e
      (λ q w.
      let j = judged_known at (check (rising m.count p f t) Refusal.Channel)
      (channels_read (at + 3) m (place f t + 1) (mark acc f t) rest) m' g w in
      let r = check_true (rising m.count p f t) Refusal.Channel j.0 in
      let c = and_left (is_channel m.count f t) (leb p (place f t)) r in
      let u = and_right (is_channel m.count f t) (leb p (place f t)) r in
      let l : p ≤ place f t = omega (arith, leb-true) in
      let x = ends_known f t c in
      let n' = most * most - (place f t + 1) in
      rw q
      (marked_then acc p f t n n' rest s void c l h (omega arith)
      (cells_known (at + 3) (place f t + 1) n' (mark acc f t) rest (omega arith) (mark_square acc s f t x)
      (λ k a b. mark_elsewhere acc s f t x k (omega arith) ∙ void k (omega arith) b) j.1)))
      (λ q w. not_refused Refusal.Trailing (at + 1) m' g w)

  pub channels_known :
      (at : ℕ) (bs : List ℕ) → channels_read at m 0 no_grid bs ≡ Found.whole m' g
      → Channelled m no_grid 0 (most * most) bs m' g
  channels_known at bs e = cells_known at 0 (most * most) no_grid bs refl no_grid_square no_grid_unmarked e
