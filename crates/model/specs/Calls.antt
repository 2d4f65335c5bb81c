-- The public calls: which tests each makes, in document 01's order ("then 9, 13, 14, 10, as far as each applies"), what it returns, and
-- what it leaves in what it was lent. "Any other refused call sets no byte and gives back state, map and grid as they came, with counts 0".
-- Assumes nothing.
use Rattle.std.specs.Prelude.{ℕ, ◌-◌, Bool, List, [], ◌++◌, leb, eqb, length, take, drop, Ok, Err}
use Rattle.model.specs.Map.{no_map, Grid, no_grid, is_domain, domain, may}
use Rattle.model.specs.Refusals.{check, ◌▸◌, accepts}
use Rattle.model.specs.Sheet.{Found, sheet_bytes, sheet_read}
use Rattle.model.specs.States.{no_state, start, well_formed}
use Rattle.model.specs.Events.{Outcome, event, Run, run, Trace, trace_of, Batch, batch}
use Rattle.model.specs.declared.map.Region.{Region}
use Rattle.model.specs.declared.map.Map.{Map}
use Rattle.model.specs.declared.map.Access.{Access}
use Rattle.model.specs.declared.state.State.{State}
use Rattle.model.specs.declared.event.Event.{Event}
use Rattle.model.specs.declared.refusal.Refusal.{Refusal}
use Rattle.model.specs.declared.call.Stop.{Stop}
use Rattle.model.specs.Answers.{Verdict, Permission, Writing, refused_at}
use Rattle.model.specs.declared.call.Sheet.{Sheet}
use Rattle.model.specs.declared.call.Started.{Started}
use Rattle.model.specs.declared.call.Stepped.{Stepped}
use Rattle.model.specs.declared.call.Played.{Played}
use Rattle.model.specs.declared.call.Batched.{Batched}

-- what a call returns, with what it was lent as the call leaves it
pub record Left (A B : Type 0) : Type 0 where
  pub value : A
  pub lent : B

abbrev pub left : {A B : Type 0} → A → B → Left A B
left a b = record { value = a; lent = b }

-- ---- the tests: 9, 13, 14

abbrev pub as_long : Map → List ℕ → Verdict
as_long m memory = check (eqb (length memory) m.length) Refusal.Memory

unfoldable pub named : Map → Grid → ℕ → Verdict
named m g d = accepts m g ▸ check (is_domain m.count d) Refusal.NoDomain

unfoldable pub lent_verdict : Map → Grid → List ℕ → ℕ → Verdict
lent_verdict m g memory d = accepts m g ▸ as_long m memory ▸ check (is_domain m.count d) Refusal.NoDomain

unfoldable pub node_verdict : Map → Grid → State → List ℕ → Verdict
node_verdict m g s memory = accepts m g ▸ as_long m memory ▸ check (well_formed m.count s) Refusal.Malformed

-- ---- the question

abbrev pub permission : Verdict → Bool → Permission
permission (Ok tt) b = Ok b
permission (Err r) b = Err r

unfoldable pub question : Map → Grid → ℕ → Access → ℕ → Permission
question m g d k a = permission (named m g d) (may (domain m d) k a)

-- ---- the view: "the data sub-region of domain d as that part of the caller's memory"; "for any refusal it returns the empty part at the front"

abbrev pub part : Verdict → Region → List ℕ → List ℕ
part (Ok tt) r memory = take (r.end - r.begin) (drop r.begin memory)
part (Err x) r memory = []

unfoldable pub view : Map → Grid → List ℕ → ℕ → List ℕ
view m g memory d = part (lent_verdict m g memory d) (domain m d).«data» memory

-- ---- the sheet's reader and writer

abbrev pub reported : Found → Left Sheet Grid
reported (Found.whole m g) = left (record { reading = Ok tt; map = m }) g
reported (Found.refused r at) = left (record { reading = Err (refused_at r at); map = no_map }) no_grid

unfoldable pub reader : List ℕ → Left Sheet Grid
reader s = reported (sheet_read s)

-- "The writer sets exactly the sheet's bytes and leaves the rest."
abbrev pub written : Verdict → List ℕ → List ℕ → Left Writing (List ℕ)
written (Ok tt) s buffer = left (Ok (length s)) (s ++ drop (length s) buffer)
written (Err r) s buffer = left (Err r) buffer

unfoldable pub writer : Map → Grid → List ℕ → Left Writing (List ℕ)
writer m g buffer =
    written (accepts m g ▸ check (leb (length (sheet_bytes m g)) (length buffer)) Refusal.Buffer) (sheet_bytes m g) buffer

-- ---- start: "a refused start gives active 0 and every context zero and halted"

abbrev pub started : Verdict → State → Started
started (Ok tt) s = record { verdict = Ok tt; state = s }
started (Err r) s = record { verdict = Err r; state = no_state }

unfoldable pub starter : Map → Grid → Started
starter m g = started (accepts m g) (start m)

-- ---- one event: step, tick and word-in are the calls at the three cases of e

abbrev pub stepped : Verdict → State → List ℕ → Outcome → Left Stepped (List ℕ)
stepped (Ok tt) s memory o = left (record { reply = Ok o.answer; state = o.state }) o.memory
stepped (Err r) s memory o = left (record { reply = Err r; state = s }) memory

unfoldable pub stepper : Map → Grid → State → List ℕ → Event → Left Stepped (List ℕ)
stepper m g s memory e = stepped (node_verdict m g s memory) s memory (event m g s memory e)

-- ---- play

abbrev pub played : Verdict → State → List ℕ → Trace → Run → Left Played (List ℕ)
played (Ok tt) s memory t r =
    left (record { close = t.close; events = length t.events; state = r.state }) r.memory
played (Err x) s memory t r = left (record { close = Err (Stop.Refused x); events = 0; state = s }) memory

unfoldable pub player : Map → Grid → State → List ℕ → List ℕ → Left Played (List ℕ)
player m g s memory bytes =
    let t = trace_of 0 bytes in
    played (node_verdict m g s memory) s memory t (run m g s memory t.events)

-- ---- batch

abbrev pub batched : Verdict → State → List ℕ → Batch → Left Batched (List ℕ)
batched (Ok tt) s memory b =
    left (record { ending = Ok b.ending; steps = b.steps; state = b.state }) b.memory
batched (Err r) s memory b = left (record { ending = Err r; steps = 0; state = s }) memory

unfoldable pub batcher : Map → Grid → State → List ℕ → ℕ → Left Batched (List ℕ)
batcher m g s memory limit = batched (node_verdict m g s memory) s memory (batch m g s memory limit)
