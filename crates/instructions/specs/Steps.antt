-- Steps one after the other, until as many as the limit are done or the node is idle; and what a stretch of one domain's instructions
-- has to do with them.
-- Assumes nothing.
use Rattle.std.specs.Prelude.{◌≡◌, ℕ, zero, suc, ◌-◌, ◌<◌, ◌≤◌, Bool, true, List, [], length, ◌==◌, slice_index_or, if◌then◌else◌}
use Rattle.model.specs.Map.{Grid, domain}
use Rattle.model.specs.States.{own, put_own}
use Rattle.model.specs.Instructions.{kept}
use Rattle.model.specs.Events.{Outcome, step}
use Rattle.model.specs.EventsLaws.{acts}
use Rattle.model.specs.declared.map.Domain.{Domain}
use Rattle.model.specs.declared.map.Map.{Map}
use Rattle.model.specs.declared.state.State.{State}
use Rattle.model.specs.declared.event.Answer.{Answer}
use Rattle.instructions.specs.Told.{linked, loaded, deed}
use Rattle.instructions.specs.declared.went.Went.{Went}
use Rattle.instructions.specs.declared.went.Ran.{Ran}

-- how many steps are left of the limit, the last answer, and the node
pub record Going : Type 0 where
  pub left : ℕ
  pub answer : Answer
  pub state : State
  pub memory : List ℕ

abbrev pub going : ℕ → Answer → State → List ℕ → Going
going n a s memory = record { left = n; answer = a; state = s; memory = memory }

-- a is the answer of the step before
unfoldable pub steps : Map → Grid → State → List ℕ → Answer → ℕ → Going
steps m g s memory a zero = going 0 a s memory
steps m g s memory a (suc n) =
    let o = step m g s memory in
    let rest = steps m g o.state o.memory o.answer n in
    if s.active == 0 then going (suc n) a s memory else rest

abbrev pub onward : Map → Grid → Outcome → ℕ → Going
onward m g o n = steps m g o.state o.memory o.answer n

-- the state, once the active domain has come to these registers and this counter
abbrev pub come : State → List ℕ → ℕ → State
come s rs n = put_own s (loaded (own s) rs n)

-- the active domain is one whose part of the map and grid this is, and it stands at these registers and this counter
pub record Stands (own-part : Domain) (count : ℕ) (row : List Bool) (rs : List ℕ) (n : ℕ) (m : Map) (g : Grid) (s : State) : Type 0 where
  pub some : 1 ≤ s.active
  pub there : s.active ≤ length s.contexts
  pub part : domain m s.active ≡ own-part
  pub counted : m.count ≡ count
  pub marks : slice_index_or g (s.active - 1) [] ≡ row
  pub registers : (own s).registers ≡ rs
  pub counter : (own s).counter ≡ n

-- the steps of a node whose active domain this is: the stretch, then what its last instruction comes to, then the steps that are left.
-- A word is sent where the channel is granted, and a step is done where there is one to do
abbrev pub Granted : ℕ → List Bool → Went → Type 0
Granted count row (Went.Moved n) = Unit {0}
Granted count row (Went.Sends t w n) = linked count row t ≡ true
Granted count row (Went.Receives r s n) = Unit {0}
Granted count row (Went.Yields n) = Unit {0}
Granted count row Went.Halts = Unit {0}
Granted count row (Went.Faults x) = Unit {0}

abbrev pub Stretches : Domain → ℕ → List Bool → List ℕ → ℕ → List ℕ → ℕ → Ran → List ℕ → List ℕ → Type 0
Stretches d count row rs counter memory limit r rs' memory' =
    ((m : Map) (g : Grid) (s : State) → Stands d count row rs counter m g s
    → steps m g s memory (Answer.Ran s.active) limit
    ≡ onward m g
    (acts m.count (come s rs' r.counter) (kept memory' (deed (loaded (own s) rs' r.counter) rs' r.went))) r.left)
    × Granted count row r.went
    × (0 < limit → r.left < limit)
