-- Document 01, "The state": "Switching takes the first ready domain after the active one, going round and ending at itself ..
-- Hence a domain that stays ready is active after at most N - 1 switches. Prove this."
-- The theorem is `fair`, over any events from any well-formed state; `honest` says that what it counts are the switches.
-- Assumes nothing.
use Rattle.std.specs.Prelude.{ℕ, zero, suc, ◌+◌, ◌-◌, ◌≤◌, ◌≡◌, refl, ◌≢◌, true, List, [], ◌∷◌, eqb, if◌then◌else◌}
use Rattle.std.proofs.Common.{ap, ◌∙◌, arith, eqb-true, ne_eqb}
use Rattle.std.proofs.lemmas.Bool.{eqb-false}
use Rattle.model.specs.Map.{Grid, is_domain}
use Rattle.model.specs.States.{full, context, ready, active_good, well_formed, switch}
use Rattle.model.specs.Instructions.{Deed}
use Rattle.model.specs.Events.{Outcome, sent, perform, attempt, step, tick, word_in, event}
use Rattle.model.proofs.BasicsLaws.{by_bool, either, true_false, and_left}
use Rattle.model.specs.StatesLaws.{Led}
use Rattle.model.proofs.StatesLaws.{led}
use Rattle.model.specs.SwitchLaws.{walk}
use Rattle.model.proofs.SwitchLaws.{walk_some, walk_on, reach, nearest}
use Rattle.model.specs.declared.map.Map.{Map}
use Rattle.model.specs.declared.state.State.{State}
use Rattle.model.specs.declared.event.Event.{Event}

-- ---- what is counted

-- where `perform` switches
unfoldable pub deed_switches : Deed → ℕ
deed_switches (Deed.runs c) = 0
deed_switches (Deed.gives_way c) = 1
deed_switches Deed.waits = 1
deed_switches Deed.halts = 1
deed_switches (Deed.faults r) = 1
deed_switches (Deed.sends t w c) = 0

unfoldable pub event_switches : Map → Grid → State → List ℕ → Event → ℕ
event_switches m g s memory Event.Step =
    let n = deed_switches (attempt m g s memory).deed in if eqb s.active 0 then 0 else n
event_switches m g s memory Event.Tick = if eqb s.active 0 then 0 else 1
event_switches m g s memory (Event.WordIn b w) = 0

unfoldable pub run_switches : Map → Grid → State → List ℕ → List Event → ℕ
run_switches m g s memory [] = 0
run_switches m g s memory (e ∷ es) =
    let o = event m g s memory e in event_switches m g s memory e + run_switches m g o.state o.memory es

-- domain d is ready in s and after each of the events
abbrev pub StaysReady : Map → Grid → ℕ → State → List ℕ → List Event → Type 0
StaysReady m g d s memory [] = ready s d ≡ true
StaysReady m g d s memory (e ∷ es) =
    (ready s d ≡ true) × StaysReady m g d (event m g s memory e).state (event m g s memory e).memory es

-- domain d is active in s or after one of the events
pub data Meets (m : Map) (g : Grid) (d : ℕ) : State → List ℕ → List Event → Type 0 where
  now : {s : State} {memory : List ℕ} {es : List Event} → s.active ≡ d → Meets m g d s memory es
  later :
      {s : State} {memory : List ℕ} {e : Event} {es : List Event}
      → Meets m g d (event m g s memory e).state (event m g s memory e).memory es → Meets m g d s memory (e ∷ es)

-- ---- the count is honest

-- what n switches make of s. 0: the active domain is as it was; 1: the state is a switch's, from that active domain
pub data Moved (count : ℕ) (s : State) : State → ℕ → Type 0 where
  stays : {t : State} → t.active ≡ s.active → Moved count s t 0
  switched : (t : State) → t.active ≡ s.active → Moved count s (switch count t) 1

deed_honest :
    (count : ℕ) (s : State) (memory : List ℕ) (x : Deed) → Moved count s (perform count s memory x).state (deed_switches x)
unfolding perform sent deed_switches
deed_honest count s memory (Deed.runs c) = Moved.stays refl
deed_honest count s memory (Deed.gives_way c) = Moved.switched _ refl
deed_honest count s memory Deed.waits = Moved.switched _ refl
deed_honest count s memory Deed.halts = Moved.switched _ refl
deed_honest count s memory (Deed.faults r) = Moved.switched _ refl
deed_honest count s memory (Deed.sends t w c) =
    either (λ x. Moved count s x 0) (full (context s t).mailbox) (Moved.stays refl) (Moved.stays refl)

pub honest :
    (m : Map) (g : Grid) (s : State) (memory : List ℕ) (e : Event) → 1 ≤ s.active
    → Moved m.count s (event m g s memory e).state (event_switches m g s memory e)
unfolding event step tick word_in event_switches
honest m g s memory Event.Step h = rw (ne_eqb s.active 0 (omega arith)) (deed_honest m.count s _ _)
honest m g s memory Event.Tick h = rw (ne_eqb s.active 0 (omega arith)) (Moved.switched s refl)
honest m g s memory (Event.WordIn b w) h =
    let P : Outcome → Type 0 = λ o. Moved m.count s o.state 0 in
    either P (is_domain m.count b)
    (either P (full (context s b).mailbox) (Moved.stays refl) (rw (ne_eqb s.active 0 (omega arith)) (Moved.stays refl)))
    (Moved.stays refl)

-- ---- each switch shortens the way to d

record Closer (count d j n : ℕ) (t : State) : Type 0 where
  far : ℕ
  less : far + n ≤ j
  some : 1 ≤ t.active
  meets : walk count t.active far ≡ d

closer :
    (count d : ℕ) (s t : State) (j n : ℕ) → Moved count s t n → 1 ≤ s.active → walk count s.active j ≡ d
    → 1 ≤ j → j ≤ count → ready t d ≡ true → Closer count d j n t
unfolding switch
closer count d s t j n (Moved.stays e) a w l h r = record { far = j; less = omega arith; some = rw e a; meets = rw e w }
closer count d s _ j n (Moved.switched t e) a w l h r =
    let v : walk count t.active j ≡ d = ap (λ x. walk count x j) e ∙ w in
    let i = nearest count t count t.active j l h (rw v r) in
    let q : i.near + (j - i.near) ≡ j = omega arith in
    record {
      far = j - i.near;
      less = omega arith;
      some = rw i.at (walk_some count t.active i.near (omega arith));
      meets = rw i.at (walk_on count t.active i.near (j - i.near) ∙ rw q v);
    }

ready_now :
    (m : Map) (g : Grid) (d : ℕ) (s : State) (memory : List ℕ) (es : List Event) → StaysReady m g d s memory es → ready s d ≡ true
ready_now m g d s memory [] r = r
ready_now m g d s memory (e ∷ es) r = r.0

-- d lies j places ahead, and j switches are made
fair_from :
    (m : Map) (g : Grid) (d : ℕ) (s : State) (memory : List ℕ) (es : List Event) (j : ℕ) → 1 ≤ s.active
    → walk m.count s.active j ≡ d → j ≤ m.count → StaysReady m g d s memory es
    → j ≤ run_switches m g s memory es → Meets m g d s memory es
unfolding walk run_switches
fair_from m g d s memory [] zero a w h r k = Meets.now w
fair_from m g d s memory [] (suc j) a w h r k = absurd (omega arith)
fair_from m g d s memory (e ∷ es) zero a w h r k = Meets.now w
fair_from m g d s memory (e ∷ es) (suc j) a w h r k =
    let t = event m g s memory e in
    let b = ready_now m g d t.state t.memory es r.1 in
    let c = closer m.count d s t.state (suc j) _ (honest m g s memory e a) a w (omega arith) h b in
    Meets.later (fair_from m g d t.state t.memory es c.far c.some c.meets (omega arith) r.1 (omega arith))

awake : (count : ℕ) (s : State) (d : ℕ) → Led count s → 1 ≤ d → d ≤ count → ready s d ≡ true → 1 ≤ s.active
awake count s d a l h r =
    by_bool (eqb s.active 0)
    (λ t. absurd (true_false r (a.idle (eqb-true s.active 0 t) d l h)))
    (λ t. let f : s.active ≢ 0 = eqb-false s.active 0 t in omega arith)

-- over events that make N - 1 switches, or more, d is active before them or after one of them
pub fair :
    (m : Map) (g : Grid) (d : ℕ) (s : State) (memory : List ℕ) (es : List Event) → well_formed m.count s ≡ true
    → 1 ≤ d → d ≤ m.count → StaysReady m g d s memory es → m.count ≤ run_switches m g s memory es + 1
    → Meets m g d s memory es
unfolding well_formed
fair m g d s memory es f l h r k =
    let a = led m.count s (and_left (active_good m.count s) _ f) in
    let b = awake m.count s d a l h (ready_now m g d s memory es r) in
    let w = reach m.count s.active d a.active l h in
    by_bool (eqb s.active d) (λ t. Meets.now (eqb-true s.active d t))
    (λ t. let n = w.short b (eqb-false s.active d t) in
    fair_from m g d s memory es w.far b w.meets w.whole r (omega arith))
