-- Laws of Exports, for code that made the call on what the lent words are and then its report.
-- Assumes nothing.
use Rattle.std.specs.Prelude.{ℕ, ◌≡◌, List, length, Ok, Err}
use Rattle.std.proofs.Math.Path.{sym, ap}
use Rattle.std.proofs.Common.{◌∙◌}
use Rattle.model.specs.Map.{Grid, domain}
use Rattle.model.specs.Refusals.{refusal_number}
use Rattle.model.specs.Calls.{Left, left, lent_verdict, view, question, reader, writer, starter, stepper, player, batcher}
use Rattle.model.specs.declared.map.Map.{Map}
use Rattle.model.specs.declared.map.Access.{Access}
use Rattle.model.specs.declared.state.State.{State}
use Rattle.model.specs.declared.event.Event.{Event}
use Rattle.model.specs.declared.refusal.Refusal.{Refusal}
use Rattle.model.specs.Answers.{Verdict, Permission, Writing}
use Rattle.model.specs.declared.call.Sheet.{Sheet}
use Rattle.model.specs.declared.call.Started.{Started}
use Rattle.model.specs.declared.call.Stepped.{Stepped}
use Rattle.model.specs.declared.call.Played.{Played}
use Rattle.model.specs.declared.call.Batched.{Batched}
use Rattle.export.specs.MapWords.{map_of, map_words, grid_of, grid_bytes}
use Rattle.export.specs.StateWords.{state_of}
use Rattle.export.specs.Reports.{reading_report, writing_report, permission_report, viewed, started_report, Told, stepped_report, Counted, played_report, Spent, batched_report}
use Rattle.export.specs.Exports.{passed, read, found, c_read, c_write, c_may, c_view, c_start, c_event, c_play, c_batch}

passed_on :
    {A B C : Type 0} (f : A → B) {a : A} {b : B} {c : C} {x : Left A C} → b ≡ f a → left a c ≡ x → left b c ≡ passed f x
passed_on f {c = c} e l = ap (λ b. left b c) e ∙ ap (passed f) l

pub read_done :
    (sheet : List ℕ) {x : Sheet} {g : Grid} {y : Left ℕ ℕ} {map grid : List ℕ}
    → left x g ≡ reader sheet → y ≡ reading_report x.reading → map ≡ map_words x.map → grid ≡ grid_bytes g
    → read y map grid ≡ c_read sheet
unfolding c_read
read_done sheet L Y M G = rw (Y, M, G) (ap found L)

module _ (map grid : List ℕ) {m : Map} {g : Grid} (M : m ≡ map_of map) (G : g ≡ grid_of grid) where
  pub write_done :
      (buffer : List ℕ) {w : Writing} {after : List ℕ} {y : Left ℕ ℕ}
      → left w after ≡ writer m g buffer → y ≡ writing_report w → left y after ≡ c_write map grid buffer
  unfolding c_write
  write_done buffer L Y = passed_on writing_report Y (rw (M, G) at L)

  pub may_done :
      (d : ℕ) (k : Access) (a granted : ℕ) {p : Permission} {y : Left ℕ ℕ}
      → p ≡ question m g d k a → y ≡ permission_report granted p → y ≡ c_may map grid d k a granted
  unfolding c_may
  may_done d k a granted P Y = Y ∙ ap (permission_report granted) (rw (M, G) at P)

  pub start_done : {s : Started} {y : Left ℕ (List ℕ)} → s ≡ starter m g → y ≡ started_report s → y ≡ c_start map grid
  unfolding c_start
  start_done S Y = Y ∙ ap started_report (rw (M, G) at S)

  module _ (memory : List ℕ) (d : ℕ) {v : Verdict} (U : v ≡ lent_verdict m g memory d) where
    pub view_refused :
        {r : Refusal} {n : ℕ} → v ≡ Err r → n ≡ refusal_number r
        → viewed n 0 0 ≡ c_view map grid memory d
    unfolding c_view
    view_refused e N = rw (N, ← M, ← G, sym U ∙ e)

    pub view_done :
        {part : List ℕ} → v ≡ Ok tt → part ≡ view m g memory d
        → viewed 0 (domain m d).«data».begin (length part) ≡ c_view map grid memory d
    unfolding c_view
    view_done e P = rw (P, ← M, ← G, sym U ∙ e)

  module _ (state memory : List ℕ) {s : State} (S : s ≡ state_of state) {after : List ℕ} where
    pub event_done :
        (answer : List ℕ) (e : Event) {x : Stepped} {y : Told}
        → left x after ≡ stepper m g s memory e → y ≡ stepped_report state answer x
        → left y after ≡ c_event map grid state memory answer e
    unfolding c_event
    event_done answer e L Y = passed_on (stepped_report state answer) Y (rw (M, G, S) at L)

    pub play_done :
        (trace : List ℕ) {x : Played} {y : Counted}
        → left x after ≡ player m g s memory trace → y ≡ played_report state x
        → left y after ≡ c_play map grid state memory trace
    unfolding c_play
    play_done trace L Y = passed_on (played_report state) Y (rw (M, G, S) at L)

    pub batch_done :
        (limit : ℕ) {x : Batched} {y : Spent}
        → left x after ≡ batcher m g s memory limit → y ≡ batched_report state x
        → left y after ≡ c_batch map grid state memory limit
    unfolding c_batch
    batch_done limit L Y = passed_on (batched_report state) Y (rw (M, G, S) at L)
