-- Document 01, "The program": what it prints for a sheet, a memory and a trace, as bytes of ASCII. Cutting the files to their first bytes
-- is the program's own.
-- Assumes nothing.
use Rattle.std.specs.Prelude.{ℕ, zero, suc, ◌+◌, ◌/◌, ◌%◌, min, List, [], ◌∷◌, ◌++◌, ltb, length, take, drop, if◌then◌else◌, Ok, Err}
use Prim.Native.String.{String, [] as empty, ◌∷◌ as ◌∷ᵗ◌}
use Prim.Native.Char.{code}
use Rattle.model.specs.Map.{Grid}
use Rattle.model.specs.Refusals.{refusal_number}
use Rattle.model.specs.Sheet.{Found, sheet_read}
use Rattle.model.specs.States.{start}
use Rattle.model.specs.Events.{Run, run, Trace, trace_of}
use Rattle.model.specs.Calls.{Left, left, as_long}
use Rattle.model.specs.declared.map.Map.{Map}
use Rattle.model.specs.declared.state.Reason.{Reason}
use Rattle.model.specs.declared.event.Answer.{Answer}
use Rattle.model.specs.declared.refusal.Refusal.{Refusal}
use Rattle.model.specs.declared.call.Stop.{Stop}
use Rattle.model.specs.Answers.{Verdict, Close}

-- ---- words and numbers

abbrev pub words : String → List ℕ
words empty = []
words (c ∷ᵗ s) = code c ∷ words s

abbrev pub digit : ℕ → List ℕ
digit n = (code "0" + n) ∷ []

-- a number of at most k decimal digits, with no 0 in front
unfoldable pub figures : ℕ → ℕ → List ℕ
figures zero n = []
figures (suc k) n = let front = figures k (n / 10) in if ltb n 10 then digit n else front ++ digit (n % 10)

-- 20 digits are enough for a number below 2^64, and the machine has no other
abbrev pub decimal : ℕ → List ℕ
decimal n = figures 20 n

-- ---- "a line per event: event number, answer, domain, and for a fault the reason and its number; then the active domain"

unfoldable pub reason_text : Reason → List ℕ
reason_text (Reason.Fetch a) = words "fetch " ++ decimal a
reason_text (Reason.Read a) = words "read " ++ decimal a
reason_text (Reason.Write a) = words "write " ++ decimal a
reason_text (Reason.Kind b) = words "kind " ++ decimal b
reason_text (Reason.Register b) = words "register " ++ decimal b
reason_text (Reason.Channel b) = words "channel " ++ decimal b

unfoldable pub answer_text : Answer → List ℕ
answer_text Answer.Idle = words "idle"
answer_text (Answer.Ran d) = words "ran " ++ decimal d
answer_text (Answer.Waits d) = words "waits " ++ decimal d
answer_text (Answer.Halted d) = words "halted " ++ decimal d
answer_text (Answer.Faulted d r) = words "faulted " ++ decimal d ++ words " " ++ reason_text r
answer_text (Answer.Switched d) = words "switched " ++ decimal d
answer_text (Answer.Taken d) = words "taken " ++ decimal d
answer_text (Answer.Full d) = words "full " ++ decimal d
answer_text (Answer.NoDomain b) = words "no domain " ++ decimal b

unfoldable pub event_line : ℕ → Answer → List ℕ
event_line n a = decimal n ++ words " " ++ answer_text a ++ words "\n"

-- the events of these answers, the first of them the event after number n
unfoldable pub event_lines : ℕ → List Answer → List ℕ
event_lines n [] = []
event_lines n (a ∷ rest) = event_line (n + 1) a ++ event_lines (n + 1) rest

unfoldable pub active_line : ℕ → List ℕ
active_line d = words "active " ++ decimal d ++ words "\n"

-- "A refusal prints one line: its number and, where there is one, "at" and the offset"
unfoldable pub refusal_line : Refusal → List ℕ
refusal_line r = decimal (refusal_number r) ++ words "\n"

unfoldable pub refusal_at_line : Refusal → ℕ → List ℕ
refusal_at_line r at = decimal (refusal_number r) ++ (words " at " ++ decimal at) ++ words "\n"

abbrev pub close_line : Close → List ℕ
close_line (Ok tt) = []
close_line (Err (Stop.Broken f)) = refusal_at_line f.refusal f.at
close_line (Err (Stop.Refused r)) = refusal_line r

-- ---- the whole

-- what is printed, and the memory afterwards
pub record Printed : Type 0 where
  pub text : List ℕ
  pub memory : List ℕ

abbrev pub prints : List ℕ → List ℕ → Printed
prints text memory = record { text = text; memory = memory }

-- "For a trace this line stands between the events and the active domain"
abbrev pub of_run : ℕ → Trace → Run → Printed
of_run n t r = prints (event_lines n r.answers ++ (close_line t.close ++ active_line r.state.active)) r.memory

unfoldable pub of_trace : Map → Grid → List ℕ → List ℕ → Printed
of_trace m g memory bytes = let t = trace_of 0 bytes in of_run 0 t (run m g (start m) memory t.events)

-- "for the others it is all that is printed"
abbrev pub unless_refused : Verdict → List ℕ → Printed → Printed
unless_refused (Ok tt) memory p = p
unless_refused (Err r) memory p = prints (refusal_line r) memory

abbrev pub of_sheet : Found → List ℕ → List ℕ → Printed
of_sheet (Found.whole m g) memory bytes = unless_refused (as_long m memory) memory (of_trace m g memory bytes)
of_sheet (Found.refused r at) memory bytes = prints (refusal_at_line r at) memory

unfoldable pub transcript : List ℕ → List ℕ → List ℕ → Printed
transcript sheet memory bytes = of_sheet (sheet_read sheet) memory bytes

-- a text in a lent buffer, as far as that goes: how many bytes are set, and the buffer, whose rest is as it was
abbrev pub laid : List ℕ → List ℕ → Left ℕ (List ℕ)
laid text buffer = left (min (length text) (length buffer)) (take (length buffer) text ++ drop (length text) buffer)

-- what is printed, in a lent buffer, and the memory afterwards
abbrev pub shown : Printed → List ℕ → Left (Left ℕ (List ℕ)) (List ℕ)
shown p buffer = left (laid p.text buffer) p.memory
