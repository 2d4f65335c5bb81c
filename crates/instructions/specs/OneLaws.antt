-- "fetch of the kind byte, kind above 19, fetch of the body, registers above 7 in body order, then access or channel": what the plan
-- of an instruction comes to, by the tests that the code makes. It fetches by comparing with the end of the code.
--     fetch_past, checked_above, body_five   the fetch of a body, its registers, and the five bytes that are read for it
--     at_fetch, one_fetch                    an instruction whose kind byte is not fetched
--     plan_told                              one whose kind byte is
-- Assumes nothing.
use Rattle.std.specs.Prelude.{◌≡◌, Option as Found, ℕ, ◌+◌, ◌-◌, ◌<◌, ◌≤◌, Bool, true, false, List, [], ◌∷◌, None, Some, nat_le, nat_lt, slice_index, refl, if◌then◌else◌}
use Rattle.std.proofs.Common.{sym, ap, ◌∙◌, arith}
use Rattle.std.proofs.Math.Option.{some}
use Rattle.std.proofs.Math.ListN.{get_or-map}
use borrow.Author.Tests.{le-leb, le-ltb, lt-ltb, leb-true, leb-false}
use Rattle.model.proofs.BasicsLaws.{by_bool}
use Rattle.model.specs.Basics.{unless}
use Rattle.model.specs.Map.{inside, may, lowest}
use Rattle.model.proofs.MapLaws.{inside_from, inside_below}
use Rattle.model.specs.Table.{Body, size, registers_of, Row, table, row_of, decoded}
use Rattle.model.specs.States.{with_counter}
use Rattle.model.specs.Instructions.{Deed, Plan, work, Done, checked, worked, decode, plan, peek, kept, carry}
use Rattle.model.specs.declared.map.Access.{Access}
use Rattle.model.specs.declared.map.Domain.{Domain}
use Rattle.model.specs.declared.state.Reason.{Reason}
use Rattle.model.specs.declared.state.Context.{Context}
use Rattle.model.specs.declared.instruction.Decoded.{Decoded}
use Rattle.instructions.specs.AccessLaws.{first_denied}
use Rattle.instructions.specs.Home.{home_all}
use Rattle.instructions.specs.Suspect.{above}
use Rattle.instructions.specs.Told.{held, lowest_of, seen, Tells}
use Rattle.instructions.specs.declared.went.Went.{Went}

-- ---- the fetch: bytes that start in the code, or at its end

module _ (own : Domain) where
  pub fetch_past :
      (a n : ℕ) → own.code.begin ≤ a → a ≤ own.code.end → own.code.end < a + n
      → lowest (may own Access.Fetch) a n ≡ some own.code.end
  unfolding may
  fetch_past a n l h p =
      first_denied (may own Access.Fetch) a n own.code.end h p
      (rw (le-leb own.code.begin own.code.end (omega arith), le-ltb own.code.end own.code.end (omega arith)))
      (λ k from below. rw (le-leb own.code.begin k (omega arith), lt-ltb k own.code.end below))

-- ---- registers

checked_above :
    (rs : List ℕ) (p : Plan) → checked rs p ≡ unless (lowest_of (above rs)) (λ r. Plan.end (Deed.faults (Reason.Register r))) p
unfolding checked
checked_above [] p = refl
checked_above (r ∷ rs) p =
    by_bool (nat_le r 7)
    (λ e. let no : nat_lt 7 r ≡ false = le-ltb 7 r (leb-true r 7 e) in rw (e, no) (checked_above rs p))
    (λ e. let yes : nat_lt 7 r ≡ true = lt-ltb 7 r (leb-false r 7 e) in rw (e, yes))

-- ---- five bytes are as good as the body's own

abbrev tested : (Body → ℕ) → Row → List ℕ → ℕ → Context → Context → Plan
tested n k memory a c on =
    let b = peek memory a (n k.form) in checked (registers_of k.form b) (work k.effect b c on)

abbrev five : Body → ℕ
five f = 5

-- so for each row of the table
body_five : (kind : ℕ) → tested size (row_of kind) ≡ tested five (row_of kind)
unfolding row_of table peek work checked
body_five kind = sym (get_or-map (tested size) table kind _) ∙ get_or-map (tested five) table kind _

-- ---- an instruction whose kind byte is not fetched

module _ (own : Domain) (count : ℕ) (row : List Bool) (memory : List ℕ) (c : Context) where
  at_fetch :
      inside own.code c.counter ≡ false
      → carry (held own count row) memory (plan c) ≡ kept memory (Deed.faults (Reason.Fetch c.counter))
  unfolding plan carry lowest may
  at_fetch e = rw e

-- as `one` tells it
pub one_fetch :
    (own : Domain) (count : ℕ) (row : List Bool) (rs : List ℕ) (n : ℕ) (memory : List ℕ) → inside own.code n ≡ false
    → Tells (held own count row) plan rs n memory (Went.Faults (Reason.Fetch n)) rs memory
one_fetch own count row rs n memory e = (λ x b. at_fetch own count row memory (seen rs n x b) e, refl)

-- ---- an instruction whose kind byte is fetched, by the tests that the code makes

module _ (own : Domain) (count : ℕ) (row : List Bool) (memory : List ℕ) (c : Context) (kind : ℕ) where
  abbrev form : Body
  form = (row_of kind).form

  abbrev body : List ℕ
  body = peek memory (c.counter + 1) 5

  abbrev done : Plan → Done
  done p = carry (held own count row) memory p

  abbrev fault : Reason → Done
  fault x = kept memory (Deed.faults x)

  -- a body's registers, then the effect
  abbrev pub registers_told : Found ℕ → Plan → Done
  registers_told None p = done p
  registers_told (Some r) p = fault (Reason.Register r)

  -- what it comes to, once it is decoded
  abbrev pub told : Found Decoded → Done
  told None = fault (Reason.Kind kind)
  told (Some d) =
      if nat_le (own.code.end - c.counter) d.length
      then fault (Reason.Fetch own.code.end)
      else registers_told (above (registers_of form body)) (work d.effect body c (with_counter c (c.counter + 1 + d.length)))

  checked_told :
      (o : Found ℕ) (p : Plan) → done (unless (lowest_of o) (λ r. Plan.end (Deed.faults (Reason.Register r))) p) ≡ registers_told o p
  unfolding carry
  checked_told None p = refl
  checked_told (Some r) p = refl

  module _ (k : kind ≡ slice_index memory c.counter) (i : inside own.code c.counter ≡ true) where
    fetched : done (plan c) ≡ done (decode c kind)
    unfolding plan carry lowest may peek
    fetched = rw (i, k)

    decoded_told : kind ≤ 19 → done (decode c kind) ≡ told (Some (decoded kind))
    unfolding decode carry worked
    decoded_told h =
        let from = inside_from own.code c.counter i in
        let below = inside_below own.code c.counter i in
        by_bool (nat_le (own.code.end - c.counter) (size form))
        (λ p. rw (
          le-leb kind 19 h,
          p,
          fetch_past own (c.counter + 1) (size form) (omega (arith, from)) (omega (arith, below))
              (omega (arith, below, leb-true _ _ p)),
        ))
        (λ p. rw (
          le-leb kind 19 h,
          p,
          home_all own Access.Fetch (c.counter + 1) (size form) (omega (arith, from)) (omega (arith, leb-false _ _ p)),
        )
        (ap (λ t. done (t memory (c.counter + 1) c (with_counter c (c.counter + 1 + size form)))) (body_five kind)
        ∙ rw (checked_above (registers_of form body)) (checked_told (above (registers_of form body)) _)))

    not_decoded : nat_le kind 19 ≡ false → done (decode c kind) ≡ told None
    unfolding decode carry
    not_decoded h = rw h

    pub plan_told : done (plan c) ≡ told (if nat_le kind 19 then Some (decoded kind) else None)
    plan_told =
        fetched ∙ by_bool (nat_le kind 19) (λ h. rw h (decoded_told (leb-true kind 19 h))) (λ h. rw h (not_decoded h))
