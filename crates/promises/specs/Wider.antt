-- Demand 3, "Wider rights change nothing that worked: two acceptable maps, same memory length, count and entries, the second allowing all
-- that the first allows: answers, states and memory agree event by event until the first fault under the first at an address or channel
-- that the second allows."
--     Wider       the premise
--     Agree       the conclusion, for a run of any events from any well-formed state;  Never: there is no such fault
-- The theorems are in proofs/Wider.antt.
-- Assumes nothing.
use Prim.Native.Nat.{ℕ, ◌≤◌}
use Rattle.std.specs.Prelude.{◌≡◌, Bool, true, false, ◌⊎◌, Ok}
use mathlib.Core.List.{List, [], ◌∷◌}
use Rattle.model.specs.Map.{Grid, Rights, rights, domain, may, granted}
use Rattle.model.specs.Refusals.{accepts}
use Rattle.model.specs.Events.{event}
use Rattle.model.specs.declared.map.Map.{Map}
use Rattle.model.specs.declared.map.Access.{Access}
use Rattle.model.specs.declared.state.Reason.{Reason}
use Rattle.model.specs.declared.state.State.{State}
use Rattle.model.specs.declared.event.Event.{Event}
use Rattle.model.specs.declared.event.Answer.{Answer}

-- ---- the premise

pub record Wider (m : Map) (g : Grid) (m' : Map) (g' : Grid) : Type 0 where
  pub first : accepts m g ≡ Ok tt
  pub second : accepts m' g' ≡ Ok tt
  pub length : m.length ≡ m'.length
  pub count : m.count ≡ m'.count
  pub entries : (d : ℕ) → 1 ≤ d → d ≤ m.count → (domain m d).entry ≡ (domain m' d).entry
  pub access :
      (d : ℕ) → 1 ≤ d → d ≤ m.count → (k : Access) (a : ℕ) → may (domain m d) k a ≡ true → may (domain m' d) k a ≡ true
  pub channel :
      (d : ℕ) → 1 ≤ d → d ≤ m.count → (t : ℕ) → granted m.count g d t ≡ true → granted m'.count g' d t ≡ true

-- ---- one plan

-- "at an address or channel that the second allows"
abbrev pub permits : Rights → Reason → Bool
permits q (Reason.Fetch a) = q.allows Access.Fetch a
permits q (Reason.Read a) = q.allows Access.Read a
permits q (Reason.Write a) = q.allows Access.Write a
permits q (Reason.Kind b) = false
permits q (Reason.Register b) = false
permits q (Reason.Channel t) = q.sends t

-- ---- one event

-- the event's answer under the first is a fault at an address or channel that the second allows
abbrev pub Parts : Map → Grid → Map → Grid → State → List ℕ → Event → Type 0
Parts m g m' g' s memory e =
    (r : Reason) × ((event m g s memory e).answer ≡ Answer.Faulted s.active r) × (permits (rights m' g' s.active) r ≡ true)

-- ---- a run of events

-- both end the event alike and agree on the rest, or this is the first fault at which they part
abbrev pub Agree : Map → Grid → Map → Grid → State → List ℕ → List Event → Type 0
Agree m g m' g' s memory [] = Unit {0}
Agree m g m' g' s memory (e ∷ es) =
    let o = event m g s memory e in
    ((o ≡ event m' g' s memory e) × Agree m g m' g' o.state o.memory es) ⊎ Parts m g m' g' s memory e

-- no event of the run under the first is a fault at which they part
abbrev pub Never : Map → Grid → Map → Grid → State → List ℕ → List Event → Type 0
Never m g m' g' s memory [] = Unit {0}
Never m g m' g' s memory (e ∷ es) =
    let o = event m g s memory e in
    (Parts m g m' g' s memory e → ⊥) × Never m g m' g' o.state o.memory es
