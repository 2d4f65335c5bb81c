-- Demand 1: "Bad input is refused with the paper's number", and "a refused call changes no byte of memory and no part of the state".
--     which             what each call says is what its tests come to: the refusal of the first that is not passed, and none where all are
--     unchanged         a call that refuses gives back what it was given, with counts 0; start, the reader and the view as 01 says for them
--     prints_refusal    the same of the text: one line, and the memory as it came
-- Assumes nothing.
use Rattle.std.specs.Prelude.{ℕ, ◌≡◌, refl, Bool, false, List, [], ◌++◌, length, Ok, Err}
use Rattle.std.proofs.Common.{sym, ap, ◌∙◌}
use Rattle.model.specs.Map.{Grid, domain, may}
use Rattle.model.specs.Refusals.{accepts}
use Rattle.model.specs.Sheet.{Found, sheet_bytes, sheet_read}
use Rattle.model.specs.States.{start}
use Rattle.model.specs.Events.{Outcome, event, event_read, Run, run, Trace, trace_of, Batch, batch}
use Rattle.model.specs.Calls.{left, named, lent_verdict, node_verdict, permission, question, part, view, reported, reader, written, writer, started, starter, stepped, stepper, played, player, batched, batcher}
use Rattle.model.specs.Program.{words, decimal, refusal_line, refusal_at_line, prints, of_sheet, transcript}
use Rattle.model.specs.declared.map.Map.{Map}
use Rattle.model.specs.declared.state.State.{State}
use Rattle.model.specs.declared.call.Stop.{Stop}
use Rattle.model.specs.Answers.{EventRead, Verdict, Close}
use Rattle.model.specs.declared.refusal.Refusal.{Refusal}
use Rattle.promises.specs.Public.{Call, value}
use Rattle.promises.specs.Tests.{Ruling, ruling, nine, sheet_tests, tests}
use Rattle.promises.specs.Traces.{Closing, trace_number}
use Rattle.promises.specs.Ruled.{of_answer, of_found, fitting}
use Rattle.promises.proofs.Ruled.{map_rules, named_rules, lent_rules, fitting_rules, node_rules, sheet_read_by, event_ruled}
use Rattle.promises.specs.Refused.{of_reading, of_close, says, Numbered, Refuses}

-- ---- what each call says, of the verdict or of the bytes

permission_says : (v : Verdict) (b : Bool) → of_answer 0 (permission v b) ≡ of_answer 0 v
permission_says (Ok tt) b = refl
permission_says (Err r) b = refl

found_says : (f : Found) → of_reading (reported f).value.reading ≡ of_found f
found_says (Found.whole m g) = refl
found_says (Found.refused r at) = refl

written_says : (v : Verdict) (s buffer : List ℕ) → of_answer 0 (written v s buffer).value ≡ of_answer 0 v
written_says (Ok tt) s buffer = refl
written_says (Err r) s buffer = refl

started_says : (v : Verdict) (s : State) → of_answer 0 (started v s).verdict ≡ of_answer 0 v
started_says (Ok tt) s = refl
started_says (Err r) s = refl

stepped_says : (v : Verdict) (s : State) (memory : List ℕ) (o : Outcome) → of_answer 0 (stepped v s memory o).value.reply ≡ of_answer 0 v
stepped_says (Ok tt) s memory o = refl
stepped_says (Err r) s memory o = refl

played_says :
    (v : Verdict) (s : State) (memory : List ℕ) (t : Trace) (r : Run) → of_close t.close ≡ Ruling.accepted
    → of_close (played v s memory t r).value.close ≡ of_answer 0 v
played_says (Ok tt) s memory t r e = e
played_says (Err x) s memory t r e = refl

batched_says : (v : Verdict) (s : State) (memory : List ℕ) (b : Batch) → of_answer 0 (batched v s memory b).value.ending ≡ of_answer 0 v
batched_says (Ok tt) s memory b = refl
batched_says (Err r) s memory b = refl

-- a trace that is read is no refusal
closing_accepted : (x : Close) → Closing x → of_close x ≡ Ruling.accepted
closing_accepted (Ok tt) h = refl
closing_accepted (Err (Stop.Broken f)) h = refl
closing_accepted (Err (Stop.Refused r)) h = absurd h

trace_accepted : (bytes : List ℕ) → of_close (trace_of 0 bytes).close ≡ Ruling.accepted
trace_accepted bytes = closing_accepted (trace_of 0 bytes).close (trace_number (length bytes) 0 bytes)

-- and what a batch that was not refused has as its ending is no refusal
batch_accepted :
    (m : Map) (g : Grid) (s : State) (memory : List ℕ) (limit : ℕ)
    → of_answer 0 (batched (Ok tt) s memory (batch m g s memory limit)).value.ending ≡ Ruling.accepted
batch_accepted m g s memory limit = batched_says (Ok tt) s memory (batch m g s memory limit)

-- ---- the theorems

pub which : (c : Call) → says c (value c) ≡ ruling (tests c)
unfolding question reader writer starter stepper player batcher
which (Call.accepting m g) = (map_rules m g).by
which (Call.asking m g d k a) = permission_says (named m g d) (may (domain m d) k a) ∙ (named_rules m g d).by
which (Call.viewing m g memory d) = (lent_rules m g memory d).by
which (Call.reading s) = found_says (sheet_read s) ∙ (sheet_read_by s).by
which (Call.writing m g buffer) = written_says (fitting m g buffer) (sheet_bytes m g) buffer ∙ (fitting_rules m g buffer).by
which (Call.starting m g) = started_says (accepts m g) (start m) ∙ (map_rules m g).by
which (Call.happening m g s memory e) =
    stepped_says (node_verdict m g s memory) s memory (event m g s memory e) ∙ (node_rules m g s memory).by
which (Call.event_reading s) = event_ruled s
which (Call.playing m g s memory trace) =
    played_says (node_verdict m g s memory) s memory (trace_of 0 trace) _ (trace_accepted trace)
    ∙ (node_rules m g s memory).by
which (Call.batching m g s memory limit) =
    batched_says (node_verdict m g s memory) s memory (batch m g s memory limit) ∙ (node_rules m g s memory).by

-- a number that is said is that of the verdict's refusal, so what follows from the verdict is the refused call's
follows :
    {A : Type 0} (f : Verdict → A) (v : Verdict) {n at : ℕ} → of_answer 0 v ≡ Ruling.refused n at
    → Numbered n (λ r. f v ≡ f (Err r))
follows f (Ok tt) e = (Refusal.Short, (cc), (cc))
follows f (Err r) e = (r, (cc), refl)

found_refuses :
    (f : Found) {n at : ℕ} → of_found f ≡ Ruling.refused n at → Numbered n (λ r. reported f ≡ reported (Found.refused r at))
found_refuses (Found.whole m g) e = (Refusal.Short, (cc), (cc))
found_refuses (Found.refused r at) e = (r, (cc), (cc))

event_refuses : (x : EventRead) {n at : ℕ} → of_answer 0 x ≡ Ruling.refused n at → Numbered n (λ r. x ≡ Err r)
event_refuses (Ok x) q = (Refusal.Short, (cc), (cc))
event_refuses (Err r) q = (r, (cc), refl)

pub unchanged : (c : Call) (n at : ℕ) → says c (value c) ≡ Ruling.refused n at → Refuses c n at
unfolding question view reader writer starter stepper player batcher
unchanged (Call.accepting m g) n at q = follows (λ x. x) (accepts m g) q
unchanged (Call.asking m g d k a) n at q =
    let v = named m g d in
    let b = may (domain m d) k a in
    follows (λ x. permission x b) v (sym (permission_says v b) ∙ q)
unchanged (Call.viewing m g memory d) n at q = follows (λ x. left x (part x (domain m d).«data» memory)) (lent_verdict m g memory d) q
unchanged (Call.reading s) n at q = found_refuses (sheet_read s) (sym (found_says (sheet_read s)) ∙ q)
unchanged (Call.writing m g buffer) n at q =
    let v = fitting m g buffer in
    let s = sheet_bytes m g in
    follows (λ x. written x s buffer) v (sym (written_says v s buffer) ∙ q)
unchanged (Call.starting m g) n at q =
    let v = accepts m g in
    follows (λ x. started x (start m)) v (sym (started_says v (start m)) ∙ q)
unchanged (Call.happening m g s memory e) n at q =
    let v = node_verdict m g s memory in
    let o = event m g s memory e in
    follows (λ x. stepped x s memory o) v (sym (stepped_says v s memory o) ∙ q)
unchanged (Call.event_reading s) n at q = event_refuses (event_read s) q
unchanged (Call.playing m g s memory trace) n at q =
    let v = node_verdict m g s memory in
    let t = trace_of 0 trace in
    let o = run m g s memory t.events in
    follows (λ x. played x s memory t o) v (sym (played_says v s memory t o (trace_accepted trace)) ∙ q)
unchanged (Call.batching m g s memory limit) n at q =
    let v = node_verdict m g s memory in
    let o = batch m g s memory limit in
    follows (λ x. batched x s memory o) v (sym (batched_says v s memory o) ∙ q)

-- ---- the text: one line with the number, and the offset where the sheet is refused; the memory as it came

abbrev line_of : Ruling → List ℕ
line_of Ruling.accepted = []
line_of (Ruling.refused n at) = decimal n ++ (words " at " ++ decimal at) ++ words "\n"

sheet_refused :
    (f : Found) (memory trace : List ℕ) {n at : ℕ} → of_found f ≡ Ruling.refused n at
    → of_sheet f memory trace ≡ prints (line_of (Ruling.refused n at)) memory
unfolding refusal_at_line
sheet_refused (Found.whole m g) memory trace e = cc
sheet_refused (Found.refused r at) memory trace e = ap (λ x. prints (line_of x) memory) e

pub prints_refusal :
    (sheet memory trace : List ℕ) (n at : ℕ) → ruling (sheet_tests sheet) ≡ Ruling.refused n at
    → transcript sheet memory trace ≡ prints (decimal n ++ (words " at " ++ decimal at) ++ words "\n") memory
unfolding transcript
prints_refusal sheet memory trace n at q = sheet_refused (sheet_read sheet) memory trace ((sheet_read_by sheet).by ∙ q)

pub prints_nine :
    (sheet memory trace : List ℕ) (m : Map) (g : Grid) → sheet_read sheet ≡ Found.whole m g → (nine m memory).passed ≡ false
    → transcript sheet memory trace ≡ prints (decimal 9 ++ words "\n") memory
unfolding transcript refusal_line
prints_nine sheet memory trace m g w q = rw (w, q)
