-- Document 01, "The program": what it prints.
--     L_prints             Case L's nine lines
--     reason_printed       a fault's reason and its number
--     transcript_length    a text has at most 80 bytes for each byte of its trace and 80 more: a buffer of that length holds it
-- Assumes nothing.
use Rattle.std.specs.Prelude.{ℕ, zero, suc, ◌+◌, ◌*◌, ◌/◌, ◌%◌, ◌≤◌, ◌≡◌, refl, List, [], ◌∷◌, ◌++◌, ltb, length, drop, Ok, Err}
use Rattle.std.proofs.Common.{ap, arith, length-append}
use Rattle.model.proofs.BasicsLaws.{by_bool}
use Rattle.model.specs.Map.{Grid}
use Rattle.model.specs.Sheet.{Found, sheet_bytes, sheet_read}
use Rattle.model.specs.States.{reason_number, start}
use Rattle.model.specs.Refusals.{refusal_number}
use Rattle.model.specs.Events.{event, event_read, run, Trace, next, trace, trace_of}
use Rattle.model.specs.Calls.{as_long}
use Rattle.model.specs.Program.{words, digit, figures, decimal, reason_text, answer_text, event_line, event_lines, active_line, refusal_line, refusal_at_line, close_line, of_trace, unless_refused, of_sheet, transcript}
use Rattle.model.specs.Whole.{whole}
use Rattle.model.specs.declared.map.Map.{Map}
use Rattle.model.specs.declared.state.Reason.{Reason}
use Rattle.model.specs.declared.state.State.{State}
use Rattle.model.specs.declared.event.Answer.{Answer}
use Rattle.model.specs.declared.event.Event.{Event}
use Rattle.model.specs.declared.call.Stop.{Stop}
use Rattle.model.specs.Answers.{EventRead, Close, Verdict}
use Rattle.model.specs.declared.refusal.Refusal.{Refusal}
use Rattle.promises.specs.CaseL.{L_map, L_grid, L_memory, L_trace}

pub L_prints :
    (transcript (sheet_bytes L_map L_grid) L_memory L_trace).text
    ≡ words "1 ran 1\n2 faulted 1 write 128\n3 waits 2\n4 idle\n5 taken 2\n6 ran 2\n7 halted 2\n8 idle\nactive 0\n"
unfolding whole
L_prints = refl

-- "for a fault the reason and its number"
abbrev reason_word : Reason → List ℕ
reason_word (Reason.Fetch a) = words "fetch "
reason_word (Reason.Read a) = words "read "
reason_word (Reason.Write a) = words "write "
reason_word (Reason.Kind b) = words "kind "
reason_word (Reason.Register b) = words "register "
reason_word (Reason.Channel b) = words "channel "

pub reason_printed : (r : Reason) → reason_text r ≡ reason_word r ++ decimal (reason_number r)
unfolding reason_text
reason_printed (Reason.Fetch a) = refl
reason_printed (Reason.Read a) = refl
reason_printed (Reason.Write a) = refl
reason_printed (Reason.Kind b) = refl
reason_printed (Reason.Register b) = refl
reason_printed (Reason.Channel b) = refl

-- ---- how long a text is

figures_short : (k n : ℕ) → length (figures k n) ≤ k
unfolding figures
figures_short zero n = omega arith
figures_short (suc k) n =
    by_bool (ltb n 10) (λ e. rw e (omega arith))
    (λ e. rw e (rw (length-append (figures k (n / 10)) (digit (n % 10))) (omega (arith, figures_short k (n / 10)))))

-- a word and a number after it
named_short : (w : List ℕ) (n : ℕ) → length (w ++ figures 20 n) ≤ length w + 20
named_short w n = rw (length-append w (figures 20 n)) (omega (arith, figures_short 20 n))

reason_short : (r : Reason) → length (reason_text r) ≤ 29
unfolding reason_text
reason_short (Reason.Fetch a) = omega (arith, named_short (words "fetch ") a)
reason_short (Reason.Read a) = omega (arith, named_short (words "read ") a)
reason_short (Reason.Write a) = omega (arith, named_short (words "write ") a)
reason_short (Reason.Kind b) = omega (arith, named_short (words "kind ") b)
reason_short (Reason.Register b) = omega (arith, named_short (words "register ") b)
reason_short (Reason.Channel b) = omega (arith, named_short (words "channel ") b)

answer_short : (a : Answer) → length (answer_text a) ≤ 58
unfolding answer_text
answer_short Answer.Idle = omega arith
answer_short (Answer.Ran d) = omega (arith, named_short (words "ran ") d)
answer_short (Answer.Waits d) = omega (arith, named_short (words "waits ") d)
answer_short (Answer.Halted d) = omega (arith, named_short (words "halted ") d)
answer_short (Answer.Faulted d r) =
    let front = words "faulted " ++ figures 20 d ++ words " " in
    let a = length-append front (reason_text r) in
    let b = length-append (words "faulted " ++ figures 20 d) (words " ") in
    omega (arith, a, b, named_short (words "faulted ") d, reason_short r)
answer_short (Answer.Switched d) = omega (arith, named_short (words "switched ") d)
answer_short (Answer.Taken d) = omega (arith, named_short (words "taken ") d)
answer_short (Answer.Full d) = omega (arith, named_short (words "full ") d)
answer_short (Answer.NoDomain b) = omega (arith, named_short (words "no domain ") b)

event_short : (n : ℕ) (a : Answer) → length (event_line n a) ≤ 80
unfolding event_line
event_short n a =
    let number = figures 20 n in
    let x = length-append number (words " ") in
    let y = length-append (number ++ words " ") (answer_text a) in
    let z = length-append (number ++ words " " ++ answer_text a) (words "\n") in
    omega (arith, x, y, z, figures_short 20 n, answer_short a)

events_short : (n : ℕ) (a : List Answer) → length (event_lines n a) ≤ 80 * length a
unfolding event_lines
events_short n [] = omega arith
events_short n (a ∷ rest) =
    let x = length-append (event_line (n + 1) a) (event_lines (n + 1) rest) in
    omega (arith, x, event_short (n + 1) a, events_short (n + 1) rest)

active_short : (d : ℕ) → length (active_line d) ≤ 28
unfolding active_line
active_short d =
    let x = length-append (words "active " ++ figures 20 d) (words "\n") in omega (arith, x, named_short (words "active ") d)

refusal_short : (r : Refusal) → length (refusal_line r) ≤ 21
unfolding refusal_line
refusal_short r =
    let number = figures 20 (refusal_number r) in
    let x = length-append number (words "\n") in omega (arith, x, figures_short 20 (refusal_number r))

refusal_at_short : (r : Refusal) (at : ℕ) → length (refusal_at_line r at) ≤ 45
unfolding refusal_at_line
refusal_at_short r at =
    let number = figures 20 (refusal_number r) in
    let place = words " at " ++ figures 20 at in
    let x = length-append number place in
    let y = length-append (number ++ place) (words "\n") in
    omega (arith, x, y, figures_short 20 (refusal_number r), named_short (words " at ") at)

close_short : (x : Close) → length (close_line x) ≤ 45
close_short (Ok tt) = omega arith
close_short (Err (Stop.Broken f)) = refusal_at_short f.refusal f.at
close_short (Err (Stop.Refused r)) = omega (arith, refusal_short r)

-- as many answers as events, and no more events than bytes
answers_length : (m : Map) (g : Grid) (s : State) (memory : List ℕ) (es : List Event) → length (run m g s memory es).answers ≡ length es
unfolding run
answers_length m g s memory [] = refl
answers_length m g s memory (e ∷ es) =
    let o = event m g s memory e in ap suc (answers_length m g o.state o.memory es)

next_short :
    (k at : ℕ) (r : EventRead) (go : ℕ → Trace) → ((n : ℕ) → length (go n).events ≤ k) → length (next at r go).events ≤ suc k
next_short k at (Ok (e, n)) go h = omega (arith, h n)
next_short k at (Err r) go h = omega arith

events_few : (k at : ℕ) (s : List ℕ) → length (trace k at s).events ≤ k
unfolding trace
events_few zero at s = omega arith
events_few (suc k) at [] = omega arith
events_few (suc k) at (b ∷ s) =
    next_short k at (event_read (b ∷ s)) (λ n. trace k (at + n) (drop n (b ∷ s))) (λ n. events_few k (at + n) (drop n (b ∷ s)))

trace_short : (m : Map) (g : Grid) (memory bytes : List ℕ) → length (of_trace m g memory bytes).text ≤ 80 * length bytes + 80
unfolding of_trace
trace_short m g memory bytes =
    let t = trace_of 0 bytes in
    let r = run m g (start m) memory t.events in
    let lines = event_lines 0 r.answers in
    let close = close_line t.close in
    let active = active_line r.state.active in
    let x = length-append lines (close ++ active) in
    let y = length-append close active in
    omega (
      arith,
      x,
      y,
      events_short 0 r.answers,
      answers_length m g (start m) memory t.events,
      events_few (length bytes) 0 bytes,
      close_short t.close,
      active_short r.state.active,
    )

node_short :
    (v : Verdict) (m : Map) (g : Grid) (memory bytes : List ℕ)
    → length (unless_refused v memory (of_trace m g memory bytes)).text ≤ 80 * length bytes + 80
node_short (Ok tt) m g memory bytes = trace_short m g memory bytes
node_short (Err r) m g memory bytes = omega (arith, refusal_short r)

sheet_short : (f : Found) (memory bytes : List ℕ) → length (of_sheet f memory bytes).text ≤ 80 * length bytes + 80
sheet_short (Found.whole m g) memory bytes = node_short (as_long m memory) m g memory bytes
sheet_short (Found.refused r at) memory bytes = omega (arith, refusal_at_short r at)

pub transcript_length : (sheet memory bytes : List ℕ) → length (transcript sheet memory bytes).text ≤ 80 * length bytes + 80
unfolding transcript
transcript_length sheet memory bytes = sheet_short (sheet_read sheet) memory bytes
