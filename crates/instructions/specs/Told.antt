-- How an instruction went, told by the code for registers and memory alone: what it means for the context that it belongs to.
-- Assumes nothing.
use Rattle.std.specs.Prelude.{◌≡◌, ℕ, ◌-◌, Bool, false, ◌&&◌, List, None, Some, Result, Ok, Err, slice_index_or, if◌then◌else◌}
use Rattle.std.specs.Prelude.{Option as Found}
use Rattle.std.proofs.Math.Option.{Option, none, some}
use Rattle.model.specs.Map.{Rights, is_domain, may}
use Rattle.model.specs.States.{full, with_counter}
use Rattle.model.specs.Instructions.{Deed, Plan, take_into, work, kept, carry}
use Rattle.model.specs.declared.map.Domain.{Domain}
use Rattle.model.specs.declared.state.Reason.{Reason}
use Rattle.model.specs.declared.state.Status.{Status}
use Rattle.model.specs.declared.state.Mailbox.{Mailbox}
use Rattle.model.specs.declared.state.Context.{Context}
use Rattle.model.specs.declared.instruction.Effect.{Effect}
use Rattle.instructions.specs.declared.went.Went.{Went}

-- the rights of a domain, of which the code holds its entry in the map, the count and its row of the grid
abbrev pub linked : ℕ → List Bool → ℕ → Bool
linked count row t = is_domain count t && slice_index_or row (t - 1) false

abbrev pub held : Domain → ℕ → List Bool → Rights
held own count row = record { allows = may own; sends = linked count row }

-- an option of the code, as the definitions have it
abbrev pub lowest_of : Found ℕ → Option ℕ
lowest_of None = none
lowest_of (Some x) = some x

abbrev pub seen : List ℕ → ℕ → Status → Mailbox → Context
seen rs n x b = record { registers = rs; counter = n; status = x; mailbox = b }

-- c with these registers and this counter
abbrev pub loaded : Context → List ℕ → ℕ → Context
loaded c rs n = seen rs n c.status c.mailbox

-- what it is that went so, in the context c; rs are the registers that it leaves. Whether a word is there to receive, the box says
abbrev pub deed : Context → List ℕ → Went → Deed
deed c rs (Went.Moved n) = Deed.runs (loaded c rs n)
deed c rs (Went.Sends t w n) = Deed.sends t w (loaded c rs n)
deed c rs (Went.Receives r s n) = if full c.mailbox then Deed.runs (take_into c (loaded c rs n) r s) else Deed.waits
deed c rs (Went.Yields n) = Deed.gives_way (loaded c rs n)
deed c rs Went.Halts = Deed.halts
deed c rs (Went.Faults x) = Deed.faults x

-- an error is a fault
abbrev pub went : Result Went Reason → Went
went (Ok x) = x
went (Err e) = Went.Faults e

-- registers change only where the domain goes on by itself
abbrev pub Keeps : Went → List ℕ → List ℕ → Type 0
Keeps (Went.Moved n) rs rs' = Unit {0}
Keeps (Went.Sends t w n) rs rs' = rs' ≡ rs
Keeps (Went.Receives r s n) rs rs' = rs' ≡ rs
Keeps (Went.Yields n) rs rs' = rs' ≡ rs
Keeps Went.Halts rs rs' = rs' ≡ rs
Keeps (Went.Faults x) rs rs' = rs' ≡ rs

-- from registers rs and the counter n, the plan p over memory came to x, and left registers rs' and memory'; whatever the status and
-- the box
abbrev pub Tells : Rights → (Context → Plan) → List ℕ → ℕ → List ℕ → Went → List ℕ → List ℕ → Type 0
Tells q p rs n memory x rs' memory' =
    ((status : Status) (b : Mailbox)
    → carry q memory (p (seen rs n status b)) ≡ kept memory' (deed (seen rs n status b) rs' x))
    × Keeps x rs rs'

-- the effect e with the body b
abbrev pub Works : Effect → Domain → ℕ → List Bool → List ℕ → ℕ → List ℕ → List ℕ → Went → List ℕ → List ℕ → Type 0
Works e own count row b next rs memory x rs' memory' =
    (n : ℕ) → Tells (held own count row) (λ c. work e b c (with_counter c next)) rs n memory x rs' memory'
