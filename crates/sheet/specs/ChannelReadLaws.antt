-- Laws of Sheet, in the reader's terms: each answer on a record of kind 4 or 5 is what the definition reads there.
--     drop_three            three bytes and what follows them
--     missing, other_kind   no record, and one of another kind
--     ended, trailing       a record of kind 5, and more after it
--     body_cut              a record of kind 4 whose body is not there
--     channel, no_channel   one whose body is there: a channel above the one before, and none
-- Assumes nothing.
use Rattle.std.specs.Prelude.{ℕ, ◌+◌, ◌-◌, ◌≤◌, ◌<◌, ◌≡◌, Bool, true, false, eqb, length, get_or, drop, if◌then◌else◌, Some, None, Ok, Err}
use Rattle.std.proofs.Math.Path.{refl, ap}
use Rattle.std.proofs.Common.{◌∙◌, arith, drop_of_length-le, length-drop, le-leb, ne_eqb}
use mathlib.Core.List.{List, [], ◌∷◌}
use Rattle.model.proofs.BasicsLaws.{and_both}
use Rattle.model.specs.Map.{Grid}
use Rattle.model.specs.Refusals.{check, is_channel}
use Rattle.model.proofs.GridLaws.{channel_ends}
use Rattle.model.specs.Sheet.{Found, finish, judged, place, rising, mark, channels_read}
use Rattle.model.specs.declared.map.Map.{Map}
use Rattle.model.specs.declared.refusal.Refusal.{Refusal}
use Rattle.std.proofs.lemmas.List.{drop_more}
use Rattle.sheet.specs.Resumed.{ReadsChannel}

pub drop_three :
    (s : List ℕ) (at : ℕ) → at + 3 ≤ length s
    → drop at s ≡ get_or s at 0 ∷ get_or s (at + 1) 0 ∷ get_or s (at + 2) 0 ∷ drop (at + 3) s
drop_three s at h =
    let two : at + 1 + 1 ≡ at + 2 = omega arith in
    let three : at + 2 + 1 ≡ at + 3 = omega arith in
    rw (drop_more s at 0 (omega arith), drop_more s (at + 1) 0 (omega arith), two, drop_more s (at + 2) 0 (omega arith), three)

-- ---- the definition, by the kind

module _ (at : ℕ) (m : Map) (p : ℕ) (g : Grid) where
  not_four :
      (k : ℕ) (rest : List ℕ) → (k ≡ 4 → ⊥)
      → channels_read at m p g (k ∷ rest) ≡ (if eqb k 5 then finish at m g rest else Found.refused Refusal.Kind at)
  unfolding channels_read
  not_four k [] n = rw (ne_eqb k 4 n)
  not_four k (f ∷ []) n = rw (ne_eqb k 4 n)
  not_four k (f ∷ t ∷ rest) n = rw (ne_eqb k 4 n)

  four_short : (rest : List ℕ) → length rest < 2 → channels_read at m p g (4 ∷ rest) ≡ Found.refused Refusal.Short at
  unfolding channels_read
  four_short [] h = refl
  four_short (f ∷ []) h = refl
  four_short (f ∷ t ∷ rest) h = absurd (omega arith)

-- ---- the reader's answers

module _ (s : List ℕ) (at : ℕ) where
  -- a channel's two bytes
  abbrev f : ℕ
  f = get_or s (at + 1) 0

  abbrev t : ℕ
  t = get_or s (at + 2) 0

  module _ (count p : ℕ) where
    pub missing : length s ≤ at → ReadsChannel s at count p (Err Refusal.Short)
    unfolding channels_read
    missing h = record { reads = λ m g e. rw (drop_of_length-le s h); fits = tt }

    module _ (h : at < length s) where
      pub other_kind :
          (get_or s at 0 ≡ 4 → ⊥) → (get_or s at 0 ≡ 5 → ⊥) → ReadsChannel s at count p (Err Refusal.Kind)
      other_kind a b =
          record {
            reads = λ m g e. rw (drop_more s at 0 h, not_four at m p g _ (drop (at + 1) s) a, ne_eqb _ 5 b);
            fits = tt;
          }

      pub ended : get_or s at 0 ≡ 5 → ReadsChannel s at count p (Ok None)
      ended k =
          record {
            reads = λ m g e. rw (drop_more s at 0 h, k, not_four at m p g 5 (drop (at + 1) s) (λ q. omega arith));
            fits = h;
          }

      pub body_cut :
          get_or s at 0 ≡ 4 → length s < at + 3 → ReadsChannel s at count p (Err Refusal.Short)
      body_cut k l =
          let left : length (drop (at + 1) s) < 2 = omega (arith, length-drop (at + 1) s) in
          record { reads = λ m g e. rw (drop_more s at 0 h, k, four_short at m p g (drop (at + 1) s) left); fits = tt }

    module _ (h : at + 3 ≤ length s) (k : get_or s at 0 ≡ 4) where
      four_judged :
          (b : Bool) → rising count p f t ≡ b → (m : Map) (g : Grid) → m.count ≡ count
          → judged at (check b Refusal.Channel) (channels_read (at + 3) m (place f t + 1) (mark g f t) (drop (at + 3) s))
          ≡ channels_read at m p g (drop at s)
      unfolding channels_read
      four_judged b r m g e = rw (drop_three s at h, k, ap (λ n. rising n p f t) e ∙ r)

      pub no_channel : rising count p f t ≡ false → ReadsChannel s at count p (Err Refusal.Channel)
      no_channel r = record { reads = four_judged false r; fits = tt }

      pub channel :
          is_channel count f t ≡ true → p ≤ place f t → ReadsChannel s at count p (Ok (Some (f - 1, t - 1)))
      channel i l =
          let ends = channel_ends count f t i in
          record { reads = four_judged true (and_both i (le-leb p (place f t) l)); fits = (h, omega arith, omega arith) }

-- ---- more after a record of kind 5

module _ (s : List ℕ) (at : ℕ) (m : Map) (g : Grid) where
  pub trailing : at + 1 < length s → Found.refused Refusal.Trailing (at + 1) ≡ finish at m g (drop (at + 1) s)
  trailing l = rw (drop_more s (at + 1) 0 l)
