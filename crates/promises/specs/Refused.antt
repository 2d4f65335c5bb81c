-- Demand 1: "Bad input is refused with the paper's number", and "a refused call changes no byte of memory and no part of the state".
--     says              what a call's result says
--     refusing          what a refused call returns, with what it was lent: what it was given, with counts 0; start, the reader and the view as
--                       01 says for them
-- The theorems are in proofs/Refused.antt.
-- Assumes nothing.
use Rattle.std.specs.Prelude.{ℕ, ◌≡◌, [], Ok, Err}
use Rattle.model.specs.Map.{no_map, no_grid}
use Rattle.model.specs.Refusals.{refusal_number}
use Rattle.model.specs.States.{no_state}
use Rattle.model.specs.Calls.{left}
use Rattle.model.specs.declared.call.Stop.{Stop}
use Rattle.model.specs.Answers.{Reading, Close, refused_at}
use Rattle.model.specs.declared.refusal.Refusal.{Refusal}
use Rattle.promises.specs.Public.{Call, Returned, value}
use Rattle.promises.specs.Tests.{Ruling}
use Rattle.promises.specs.Ruled.{of_answer}

-- ---- what a result says, where it is not an answer or a refusal alone (`of_answer`)

abbrev pub of_reading : Reading → Ruling
of_reading (Ok tt) = Ruling.accepted
of_reading (Err f) = Ruling.refused (refusal_number f.refusal) f.at

-- a trace that breaks is no refusal of the call: the events before stand (Traces)
abbrev pub of_close : Close → Ruling
of_close (Ok tt) = Ruling.accepted
of_close (Err (Stop.Broken f)) = Ruling.accepted
of_close (Err (Stop.Refused r)) = Ruling.refused (refusal_number r) 0

abbrev pub says : (c : Call) → Returned c → Ruling
says (Call.accepting m g) x = of_answer 0 x
says (Call.asking m g d k a) x = of_answer 0 x
says (Call.viewing m g memory d) x = of_answer 0 x.value
says (Call.reading s) x = of_reading x.value.reading
says (Call.writing m g buffer) x = of_answer 0 x.value
says (Call.starting m g) x = of_answer 0 x.verdict
says (Call.happening m g s memory e) x = of_answer 0 x.value.reply
says (Call.event_reading s) x = of_answer 0 x
says (Call.playing m g s memory trace) x = of_close x.value.close
says (Call.batching m g s memory limit) x = of_answer 0 x.value.ending

-- ---- what a refused call returns, with what it was lent

abbrev pub refusing : (c : Call) → Refusal → ℕ → Returned c
refusing (Call.accepting m g) r at = Err r
refusing (Call.asking m g d k a) r at = Err r
refusing (Call.viewing m g memory d) r at = left (Err r) []
refusing (Call.reading s) r at = left (record { reading = Err (refused_at r at); map = no_map }) no_grid
refusing (Call.writing m g buffer) r at = left (Err r) buffer
refusing (Call.starting m g) r at = record { verdict = Err r; state = no_state }
refusing (Call.happening m g s memory e) r at = left (record { reply = Err r; state = s }) memory
refusing (Call.event_reading s) r at = Err r
refusing (Call.playing m g s memory trace) r at = left (record { close = Err (Stop.Refused r); events = 0; state = s }) memory
refusing (Call.batching m g s memory limit) r at = left (record { ending = Err r; steps = 0; state = s }) memory

-- for the refusal of that number
abbrev pub Numbered : ℕ → (Refusal → Type 0) → Type 0
Numbered n P = (r : Refusal) × (refusal_number r ≡ n) × P r

abbrev pub Refuses : Call → ℕ → ℕ → Type 0
Refuses c n at = Numbered n (λ r. value c ≡ refusing c r at)
