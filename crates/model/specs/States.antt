-- Document 01, "The state".
-- Assumes nothing.
use Rattle.std.specs.Prelude.{ℕ, zero, suc, ◌+◌, ◌-◌, Bool, true, false, ◌&&◌, ◌||◌, not, List, [], leb, ltb, eqb, get_or, set, replicate, if◌then◌else◌}
use Rattle.model.specs.Map.{most, nth}
use Rattle.model.specs.declared.map.Map.{Map}
use Rattle.model.specs.declared.state.Reason.{Reason}
use Rattle.model.specs.declared.state.Status.{Status}
use Rattle.model.specs.declared.state.Mailbox.{Mailbox}
use Rattle.model.specs.declared.state.Context.{Context}
use Rattle.model.specs.declared.state.State.{State}

-- "fetch, read or write with an address, kind or register with a byte, channel with a byte": that address or byte
abbrev pub reason_number : Reason → ℕ
reason_number (Reason.Fetch a) = a
reason_number (Reason.Read a) = a
reason_number (Reason.Write a) = a
reason_number (Reason.Kind b) = b
reason_number (Reason.Register b) = b
reason_number (Reason.Channel b) = b

-- ---- a box: "holding at most one word with its sender"

abbrev pub empty_box : Mailbox
empty_box = record { full = false; word = 0; sender = 0 }

abbrev pub full : Mailbox → Bool
full b = b.full

abbrev pub fill : Mailbox → ℕ → ℕ → Mailbox
fill b w from = record { full = true; word = w; sender = from }

-- the word that receive gets, its sender, and the box without it
abbrev pub held_word : Mailbox → ℕ
held_word b = b.word

abbrev pub held_sender : Mailbox → ℕ
held_sender b = b.sender

abbrev pub take_word : Mailbox → Mailbox
take_word b = empty_box

-- ---- a context

abbrev pub blank : Context
blank = record { registers = replicate 8 0; counter = 0; status = Status.Halted; mailbox = empty_box }

-- what a place past the last context reads as, in the code too; no state has a context there
abbrev pub missing : Context
missing = record { registers = []; counter = 0; status = Status.Halted; mailbox = empty_box }

abbrev pub register : Context → ℕ → ℕ
register c r = get_or c.registers r 0

abbrev pub set_register : Context → ℕ → ℕ → Context
set_register c r v =
    record { registers = set c.registers r v; counter = c.counter; status = c.status; mailbox = c.mailbox }

abbrev pub with_counter : Context → ℕ → Context
with_counter c n = record { registers = c.registers; counter = n; status = c.status; mailbox = c.mailbox }

abbrev pub with_status : Context → Status → Context
with_status c x = record { registers = c.registers; counter = c.counter; status = x; mailbox = c.mailbox }

abbrev pub with_box : Context → Mailbox → Context
with_box c b = record { registers = c.registers; counter = c.counter; status = c.status; mailbox = b }

abbrev pub is_ready : Status → Bool
is_ready Status.Halted = false
is_ready Status.Ready = true
is_ready Status.Waiting = false
is_ready (Status.Faulted r) = false

abbrev pub is_waiting : Status → Bool
is_waiting Status.Halted = false
is_waiting Status.Ready = false
is_waiting Status.Waiting = true
is_waiting (Status.Faulted r) = false

abbrev pub is_halted : Status → Bool
is_halted Status.Halted = true
is_halted Status.Ready = false
is_halted Status.Waiting = false
is_halted (Status.Faulted r) = false

-- "A waiting receiver becomes ready, whoever fills its box."
abbrev pub woken : Status → Status
woken x = if is_waiting x then Status.Ready else x

abbrev pub received : Context → ℕ → ℕ → Context
received c w from = with_status (with_box c (fill c.mailbox w from)) (woken c.status)

-- ---- a state: the context of domain d; the state with another in its place, or with another domain active

abbrev pub context : State → ℕ → Context
context s d = get_or s.contexts (d - 1) missing

abbrev pub put : State → ℕ → Context → State
put s d c = record { active = s.active; contexts = set s.contexts (d - 1) c }

-- the active domain's own
abbrev pub own : State → Context
own s = context s s.active

abbrev pub put_own : State → Context → State
put_own s c = put s s.active c

abbrev pub with_active : State → ℕ → State
with_active s d = record { active = d; contexts = s.contexts }

abbrev pub ready : State → ℕ → Bool
ready s d = is_ready (context s d).status

-- "active 0 and every context zero and halted"
abbrev pub no_state : State
no_state = record { active = 0; contexts = replicate most blank }

-- "Start: all ready, registers 0, counter at the entry, boxes empty, domain 1 active."
abbrev pub at_entry : ℕ → Context
at_entry entry = record { registers = replicate 8 0; counter = entry; status = Status.Ready; mailbox = empty_box }

-- n domains are put at their entries, from the one after the first i
unfoldable pub seated : List Context → Map → ℕ → ℕ → List Context
seated cs m i zero = cs
seated cs m i (suc n) = seated (set cs i (at_entry (nth m i).entry)) m (i + 1) n

unfoldable pub start : Map → State
start m = record { active = 1; contexts = seated (replicate most blank) m 0 m.count }

-- ---- "Well formed"

-- some of the first n domains is ready
unfoldable pub any_ready : State → ℕ → Bool
any_ready s zero = false
any_ready s (suc n) = let rest = any_ready s n in is_ready (get_or s.contexts n missing).status || rest

-- "active is 0 to N; it is 0 exactly if no domain is ready, else that domain is ready"
unfoldable pub active_good : ℕ → State → Bool
active_good count s =
    leb s.active count && (if eqb s.active 0 then not (any_ready s count) else ready s s.active)

-- "an empty box has word and sender 0, a full one a sender 0 to N"
unfoldable pub box_good : ℕ → Mailbox → Bool
box_good count b = if full b then leb b.sender count else eqb b.word 0 && eqb b.sender 0

-- "a waiting domain's box is empty"
unfoldable pub context_good : ℕ → Context → Bool
context_good count c = not (is_waiting c.status && full c.mailbox) && box_good count c.mailbox

-- "contexts past N are zero and halted"
unfoldable pub zeros : List ℕ → ℕ → Bool
zeros xs zero = true
zeros xs (suc n) = let rest = zeros xs n in eqb (get_or xs n 0) 0 && rest

unfoldable pub is_blank : Context → Bool
is_blank c =
    zeros c.registers 8 && eqb c.counter 0 && is_halted c.status
    && not (full c.mailbox) && box_good 0 c.mailbox

-- the first n contexts
unfoldable pub contexts_good : ℕ → State → ℕ → Bool
contexts_good count s zero = true
contexts_good count s (suc n) =
    let c = get_or s.contexts n missing in
    let rest = contexts_good count s n in
    (if ltb n count then context_good count c else is_blank c) && rest

unfoldable pub well_formed : ℕ → State → Bool
well_formed count s = active_good count s && contexts_good count s most

-- ---- "Switching takes the first ready domain after the active one, going round and ending at itself; with none, active becomes 0."

abbrev pub after : ℕ → ℕ → ℕ
after count d = if ltb d count then d + 1 else 1

-- the first ready one of the n that come after d
unfoldable pub first_ready : ℕ → State → ℕ → ℕ → ℕ
first_ready count s zero d = 0
first_ready count s (suc n) d =
    let rest = first_ready count s n (after count d) in if ready s (after count d) then after count d else rest

unfoldable pub switch : ℕ → State → State
switch count s = with_active s (first_ready count s count s.active)
