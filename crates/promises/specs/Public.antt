-- Document 01, "How tightly the contracts bind": the public calls as one type, with what each is given; what each returns, with what it was lent
-- as the call leaves it; and the definition that its contract says this is.
--     coincide          two returns that meet a contract are one, with every lent byte; whatever the contract's definition is
--     call_coincides    so for each public call that can refuse, and `transcript_coincides` for the text
--     both_coincide     what is returned, and what was lent, each
-- `step`, `tick` and `word_in` are `event` at their event. A view stands beside its companion's number.
-- Assumes nothing.
use Rattle.std.specs.Prelude.{ℕ, ◌≡◌, List}
use Rattle.std.proofs.Common.{sym, ap, ◌∙◌}
use Rattle.model.specs.Map.{Grid}
use Rattle.model.specs.Refusals.{accepts}
use Rattle.model.specs.Events.{event_read}
use Rattle.model.specs.Calls.{Left, left, lent_verdict, question, view, reader, writer, starter, stepper, player, batcher}
use Rattle.model.specs.Program.{transcript, shown}
use Rattle.model.specs.declared.map.Map.{Map}
use Rattle.model.specs.declared.map.Access.{Access}
use Rattle.model.specs.declared.state.State.{State}
use Rattle.model.specs.declared.event.Event.{Event}
use Rattle.model.specs.Answers.{EventRead, Verdict, Permission, Writing}
use Rattle.model.specs.declared.call.Sheet.{Sheet}
use Rattle.model.specs.declared.call.Started.{Started}
use Rattle.model.specs.declared.call.Stepped.{Stepped}
use Rattle.model.specs.declared.call.Played.{Played}
use Rattle.model.specs.declared.call.Batched.{Batched}

pub data Call : Type 0 where
  accepting : Map → Grid → Call
  asking : Map → Grid → ℕ → Access → ℕ → Call
  viewing : Map → Grid → List ℕ → ℕ → Call
  reading : List ℕ → Call
  writing : Map → Grid → List ℕ → Call
  starting : Map → Grid → Call
  happening : Map → Grid → State → List ℕ → Event → Call
  event_reading : List ℕ → Call
  playing : Map → Grid → State → List ℕ → List ℕ → Call
  batching : Map → Grid → State → List ℕ → ℕ → Call

abbrev pub Returned : Call → Type 0
Returned (Call.accepting m g) = Verdict
Returned (Call.asking m g d k a) = Permission
Returned (Call.viewing m g memory d) = Left Verdict (List ℕ)
Returned (Call.reading s) = Left Sheet Grid
Returned (Call.writing m g buffer) = Left Writing (List ℕ)
Returned (Call.starting m g) = Started
Returned (Call.happening m g s memory e) = Left Stepped (List ℕ)
Returned (Call.event_reading bytes) = EventRead
Returned (Call.playing m g s memory trace) = Left Played (List ℕ)
Returned (Call.batching m g s memory limit) = Left Batched (List ℕ)

abbrev pub value : (c : Call) → Returned c
value (Call.accepting m g) = accepts m g
value (Call.asking m g d k a) = question m g d k a
value (Call.viewing m g memory d) = left (lent_verdict m g memory d) (view m g memory d)
value (Call.reading s) = reader s
value (Call.writing m g buffer) = writer m g buffer
value (Call.starting m g) = starter m g
value (Call.happening m g s memory e) = stepper m g s memory e
value (Call.event_reading bytes) = event_read bytes
value (Call.playing m g s memory trace) = player m g s memory trace
value (Call.batching m g s memory limit) = batcher m g s memory limit

pub coincide : {A : Type 0} {x y v : A} → x ≡ v → y ≡ v → x ≡ y
coincide p q = p ∙ sym q

pub call_coincides : (c : Call) (x y : Returned c) → x ≡ value c → y ≡ value c → x ≡ y
call_coincides c x y p q = coincide p q

pub transcript_coincides :
    (sheet memory trace buffer : List ℕ) (x y : Left (Left ℕ (List ℕ)) (List ℕ))
    → x ≡ shown (transcript sheet memory trace) buffer → y ≡ shown (transcript sheet memory trace) buffer → x ≡ y
transcript_coincides sheet memory trace buffer x y p q = coincide p q

pub both_coincide : {A B : Type 0} {a a' : A} {b b' : B} {v : Left A B} → left a b ≡ v → left a' b' ≡ v → (a ≡ a') × (b ≡ b')
both_coincide p q = (ap (λ x. x.value) (coincide p q), ap (λ x. x.lent) (coincide p q))
