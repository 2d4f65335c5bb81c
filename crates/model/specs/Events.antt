-- Document 01, "Events".
-- Assumes nothing.
use Rattle.std.specs.Prelude.{ℕ, zero, suc, ◌+◌, ◌&&◌, List, [], ◌∷◌, leb, eqb, length, get_or, drop, if◌then◌else◌, Ok, Err}
use Rattle.model.specs.Basics.{number}
use Rattle.model.specs.Map.{Grid, is_domain, rights}
use Rattle.model.specs.States.{full, is_waiting, set_register, with_status, received, context, put, own, put_own, with_active, switch}
use Rattle.model.specs.Instructions.{Deed, Done, plan, carry}
use Rattle.model.specs.declared.map.Map.{Map}
use Rattle.model.specs.declared.state.Status.{Status}
use Rattle.model.specs.declared.state.Context.{Context}
use Rattle.model.specs.declared.state.State.{State}
use Rattle.model.specs.declared.event.Event.{Event}
use Rattle.model.specs.declared.event.Answer.{Answer}
use Rattle.model.specs.declared.call.Stop.{Stop}
use Rattle.model.specs.Answers.{EventRead, Close, refused_at}
use Rattle.model.specs.declared.refusal.Refusal.{Refusal}
use Rattle.model.specs.declared.call.Ending.{Ending}

-- ---- a step

pub record Outcome : Type 0 where
  pub answer : Answer
  pub state : State
  pub memory : List ℕ

-- the domain that an answer names; idle names none, "domain 0 means the device or nobody"
abbrev pub answer_domain : Answer → ℕ
answer_domain Answer.Idle = 0
answer_domain (Answer.Ran d) = d
answer_domain (Answer.Waits d) = d
answer_domain (Answer.Halted d) = d
answer_domain (Answer.Faulted d r) = d
answer_domain (Answer.Switched d) = d
answer_domain (Answer.Taken d) = d
answer_domain (Answer.Full d) = d
answer_domain (Answer.NoDomain b) = b

abbrev pub gives : Answer → State → List ℕ → Outcome
gives a s memory = record { answer = a; state = s; memory = memory }

-- the word is in the box of domain t
abbrev pub delivered : State → ℕ → ℕ → ℕ → State
delivered s t w from = put s t (received (context s t) w from)

-- "otherwise R0 becomes 1 and the box is filled, or R0 becomes 0 if it was full": the active domain, left with context c, sends w to t
unfoldable pub sent : State → ℕ → ℕ → Context → State
sent s t w c =
    if full (context s t).mailbox
    then put_own s (set_register c 0 0)
    else delivered (put_own s (set_register c 0 1)) t w s.active

-- what the active domain's deed makes of the state.
-- "A fault sets the status, changes nothing else of the domain, memory or boxes, and switches."
unfoldable pub perform : ℕ → State → List ℕ → Deed → Outcome
perform count s memory (Deed.runs c) = gives (Answer.Ran s.active) (put_own s c) memory
perform count s memory (Deed.gives_way c) = gives (Answer.Ran s.active) (switch count (put_own s c)) memory
perform count s memory Deed.waits =
    gives (Answer.Waits s.active) (switch count (put_own s (with_status (own s) Status.Waiting))) memory
perform count s memory Deed.halts =
    gives (Answer.Halted s.active) (switch count (put_own s (with_status (own s) Status.Halted))) memory
perform count s memory (Deed.faults r) =
    gives (Answer.Faulted s.active r) (switch count (put_own s (with_status (own s) (Status.Faulted r)))) memory
perform count s memory (Deed.sends t w c) = gives (Answer.Ran s.active) (sent s t w c) memory

-- what the active domain's instruction comes to
abbrev pub attempt : Map → Grid → State → List ℕ → Done
attempt m g s memory = carry (rights m g s.active) memory (plan (own s))

-- "idle for a step or tick when active is 0, changing nothing"
unfoldable pub step : Map → Grid → State → List ℕ → Outcome
step m g s memory =
    let done = attempt m g s memory in
    if eqb s.active 0 then gives Answer.Idle s memory else perform m.count s done.memory done.deed

unfoldable pub tick : ℕ → State → List ℕ → Outcome
tick count s memory =
    if eqb s.active 0 then gives Answer.Idle s memory else gives (Answer.Switched (switch count s).active) (switch count s) memory

-- "word in, from sender 0; if idle and the receiver becomes ready, it becomes active"
abbrev pub roused : State → ℕ → State → State
roused s b t = if eqb s.active 0 && is_waiting (context s b).status then with_active t b else t

abbrev pub word_for : State → List ℕ → ℕ → ℕ → Outcome
word_for s memory b w =
    if full (context s b).mailbox
    then gives (Answer.Full b) s memory
    else gives (Answer.Taken b) (roused s b (delivered s b w 0)) memory

unfoldable pub word_in : ℕ → State → List ℕ → ℕ → ℕ → Outcome
word_in count s memory b w = if is_domain count b then word_for s memory b w else gives (Answer.NoDomain b) s memory

unfoldable pub event : Map → Grid → State → List ℕ → Event → Outcome
event m g s memory Event.Step = step m g s memory
event m g s memory Event.Tick = tick m.count s memory
event m g s memory (Event.WordIn b w) = word_in m.count s memory b w

-- ---- a trace

pub record Run : Type 0 where
  pub answers : List Answer
  pub state : State
  pub memory : List ℕ

abbrev pub then_run : Outcome → Run → Run
then_run o rest = record { answers = o.answer ∷ rest.answers; state = rest.state; memory = rest.memory }

unfoldable pub run : Map → Grid → State → List ℕ → List Event → Run
run m g s memory [] = record { answers = []; state = s; memory = memory }
run m g s memory (e ∷ es) = let o = event m g s memory e in then_run o (run m g o.state o.memory es)

-- the event at the front of the bytes and how many it takes, or 11 or 12. "Kind 3, body of a domain byte and a 32-bit word"
abbrev pub word_event : List ℕ → EventRead
word_event s =
    if leb 6 (length s)
    then Ok (Event.WordIn (get_or s 1 0) (number s 2), 6)
    else Err Refusal.EventShort

abbrev pub of_kind : ℕ → List ℕ → EventRead
of_kind kind s =
    if eqb kind 1 then Ok (Event.Step, 1)
    else (if eqb kind 2 then Ok (Event.Tick, 1)
    else (if eqb kind 3 then word_event s else Err Refusal.EventKind))

unfoldable pub event_read : List ℕ → EventRead
event_read [] = Err Refusal.EventShort
event_read (kind ∷ rest) = of_kind kind (kind ∷ rest)

pub record Trace : Type 0 where
  pub events : List Event
  pub close : Close

abbrev pub ended : Close → Trace
ended x = record { events = []; close = x }

abbrev pub follow : Event → Trace → Trace
follow e t = record { events = e ∷ t.events; close = t.close }

abbrev pub next : ℕ → EventRead → (ℕ → Trace) → Trace
next at (Ok (e, n)) go = follow e (go n)
next at (Err r) go = ended (Err (Stop.Broken (refused_at r at)))

abbrev pub at_end : List ℕ → Trace → Trace
at_end [] t = ended (Ok tt)
at_end (b ∷ rest) t = t

-- "Playing a trace stops at its first broken record with 11 or 12, its offset and the events done": the events before it, and how it closes.
-- A record takes a byte at least, so as many rounds as there are bytes are enough (`rounds_enough`)
unfoldable pub trace : ℕ → ℕ → List ℕ → Trace
trace zero at s = ended (Ok tt)
trace (suc rounds) at s =
    let t = next at (event_read s) (λ n. trace rounds (at + n) (drop n s)) in at_end s t

abbrev pub trace_of : ℕ → List ℕ → Trace
trace_of at s = trace (length s) at s

-- ---- a batch: "takes a limit of steps and stops early when idle; it reports how many steps were not idle"

pub record Batch : Type 0 where
  pub steps : ℕ
  pub ending : Ending
  pub state : State
  pub memory : List ℕ

abbrev pub one_more : Batch → Batch
one_more b = record { steps = b.steps + 1; ending = b.ending; state = b.state; memory = b.memory }

unfoldable pub batch : Map → Grid → State → List ℕ → ℕ → Batch
batch m g s memory zero = record { steps = 0; ending = Ending.Spent; state = s; memory = memory }
batch m g s memory (suc limit) =
    let o = step m g s memory in
    let rest = one_more (batch m g o.state o.memory limit) in
    if eqb s.active 0 then record { steps = 0; ending = Ending.Idle; state = s; memory = memory } else rest
