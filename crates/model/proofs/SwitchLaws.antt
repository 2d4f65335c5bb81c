-- Laws of States: the switch.
--     after_some, after_within       the next domain is one of the map's
--     walk, reach, nearest           the round that a switch goes: where it leads, and what it finds first
--     found_within, -ready, -some    what a switch finds is a domain and ready, and is found if there is one
--     switch_led                     so after a switch the active domain is as a well-formed state has it
-- Assumes nothing.
use Rattle.std.specs.Prelude.{ℕ, zero, suc, ◌+◌, ◌-◌, ◌≤◌, ◌<◌, ◌≡◌, true, false, ltb}
use Rattle.std.proofs.Common.{sym, ◌∙◌, arith, add-zero, zero-add, suc-add, ltb-true, ltb-false, lt-ltb, le-ltb}
use Rattle.model.proofs.BasicsLaws.{by_bool, true_false}
use Rattle.model.specs.States.{ready, after, first_ready, switch}
use Rattle.model.specs.StatesLaws.{Led}
use Rattle.model.specs.declared.state.State.{State}
use Rattle.model.specs.SwitchLaws.{walk, Ahead, Nearest}

-- ---- the round: "the first ready domain after the active one, going round and ending at itself"

pub after_some : (count a : ℕ) → 1 ≤ after count a
after_some count a = by_bool (ltb a count) (λ t. rw t (omega arith)) (λ t. rw t (omega arith))

pub after_within : (count a : ℕ) → 1 ≤ count → after count a ≤ count
after_within count a h = by_bool (ltb a count) (λ t. rw t (omega (arith, ltb-true a count t))) (λ t. rw t h)

pub walk_some : (count a j : ℕ) → 1 ≤ a + j → 1 ≤ walk count a j
unfolding walk
walk_some count a zero h = omega arith
walk_some count a (suc j) h = walk_some count (after count a) j (omega (arith, after_some count a))

pub walk_on : (count a i j : ℕ) → walk count (walk count a i) j ≡ walk count a (i + j)
unfolding walk
walk_on count a zero j = rw zero-add
walk_on count a (suc i) j = rw suc-add (walk_on count (after count a) i j)

-- without going round
climb : (count a j : ℕ) → a + j ≤ count → walk count a j ≡ a + j
unfolding walk
climb count a zero h = rw add-zero
climb count a (suc j) h =
    let e : a + 1 + j ≡ a + suc j = omega arith in
    rw (lt-ltb a count (omega arith)) (climb count (a + 1) j (omega arith) ∙ e)

from_last : (count d : ℕ) → 1 ≤ d → d ≤ count → walk count count d ≡ d
unfolding walk
from_last count zero l h = absurd (omega arith)
from_last count (suc j) l h =
    let e : 1 + j ≡ suc j = omega arith in rw (le-ltb count count (omega arith)) (climb count 1 j (omega arith) ∙ e)

-- going round: from a to the last domain, to the first, to d
round : (count a d : ℕ) → a ≤ count → 1 ≤ d → d ≤ count → walk count a (count - a + d) ≡ d
round count a d h l k =
    let e : a + (count - a) ≡ count = omega arith in
    sym (walk_on count a (count - a) d) ∙ rw (climb count a (count - a) (omega arith), e) (from_last count d l k)

pub reach : (count a d : ℕ) → a ≤ count → 1 ≤ d → d ≤ count → Ahead count a d
reach count a d h l k =
    by_bool (ltb a d)
    (λ t. let b : a < d = ltb-true a d t in
    let e : a + (d - a) ≡ d = omega arith in
    let w = climb count a (d - a) (omega arith) ∙ e in
    record { far = d - a; some = omega arith; whole = omega arith; short = omega arith; meets = w })
    (λ t. let b : d ≤ a = ltb-false a d t in
    record { far = count - a + d; some = omega arith; whole = omega arith; short = omega arith; meets = round count a d h l k })

not_here : (count : ℕ) (s : State) (a j : ℕ) → ready s a ≡ false → ready s (walk count a j) ≡ true → 1 ≤ j
unfolding walk
not_here count s a zero f r = absurd (true_false r f)
not_here count s a (suc j) f r = omega arith

pub nearest :
    (count : ℕ) (s : State) (n a j : ℕ) → 1 ≤ j → j ≤ n → ready s (walk count a j) ≡ true
    → Nearest count a j (first_ready count s n a)
unfolding first_ready walk
nearest count s zero a j l h r = absurd (omega arith)
nearest count s (suc n) a zero l h r = absurd (omega arith)
nearest count s (suc n) a (suc j) l h r =
    by_bool (ready s (after count a))
    (λ t. record { near = 1; some = omega arith; before = omega arith; at = rw t })
    (λ t. let i = nearest count s n (after count a) j (not_here count s (after count a) j t r) (omega arith) r in
    record { near = suc i.near; some = omega arith; before = omega arith; at = rw t i.at })

pub found_within : (count : ℕ) (s : State) (n a : ℕ) → 1 ≤ count → first_ready count s n a ≤ count
unfolding first_ready
found_within count s zero a h = omega arith
found_within count s (suc n) a h =
    by_bool (ready s (after count a)) (λ t. rw t (after_within count a h)) (λ t. rw t (found_within count s n (after count a) h))

pub found_ready : (count : ℕ) (s : State) (n a : ℕ) → 1 ≤ first_ready count s n a → ready s (first_ready count s n a) ≡ true
unfolding first_ready
found_ready count s zero a h = absurd (omega arith)
found_ready count s (suc n) a h =
    by_bool (ready s (after count a)) (λ t. rw (t, t)) (λ t. rw t (found_ready count s n (after count a) (rw t at h)))

-- "with none, active becomes 0", and only then
pub found_some :
    (count : ℕ) (s : State) (a d : ℕ) → a ≤ count → 1 ≤ d → d ≤ count → ready s d ≡ true → 1 ≤ first_ready count s count a
found_some count s a d h l k r =
    let w = reach count a d h l k in
    let i = nearest count s count a w.far w.some w.whole (rw w.meets r) in
    rw i.at (walk_some count a i.near (omega (arith, i.some)))

-- wherever a switch starts from
pub switch_led : (count : ℕ) (s : State) → 1 ≤ count → s.active ≤ count → Led count (switch count s)
unfolding switch
switch_led count s h a =
    record {
      active = found_within count s count s.active h;
      idle = λ z d l k. by_bool (ready s d) (λ t. absurd (omega (arith, found_some count s s.active d a l k t))) (λ t. t);
      runs = λ l. found_ready count s count s.active l;
    }
