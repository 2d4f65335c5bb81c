-- The C functions as one type, with what each is lent; what each returns, with what it was lent as it leaves it; and the definition that its
-- contract says this is. `arcovinda_transcript` has the contract of the call, `transcript_coincides`.
--     function_coincides   two returns that meet a contract are one, with every lent word and byte
--     function_unchanged   where the call refuses, its number is returned and nothing is set but counts, which are 0; reading and start as 01 says
-- Assumes nothing.
use Rattle.std.specs.Prelude.{ℕ, ◌≡◌, refl, List, length}
use Rattle.std.proofs.Common.{ap, ◌∙◌}
use Rattle.model.specs.Map.{no_map, no_grid, domain}
use Rattle.model.specs.Refusals.{refusal_number}
use Rattle.model.specs.States.{no_state}
use Rattle.model.specs.Calls.{Left, left}
use Rattle.model.specs.declared.map.Access.{Access}
use Rattle.model.specs.declared.event.Event.{Event}
use Rattle.model.specs.declared.refusal.Refusal.{Refusal}
use Rattle.promises.specs.Public.{Call, Returned, value, coincide}
use Rattle.promises.specs.Tests.{Ruling}
use Rattle.promises.specs.Refused.{says, refusing as refused_call}
use Rattle.promises.proofs.Refused.{unchanged}
use Rattle.export.specs.MapWords.{map_of, map_words, grid_of, grid_bytes}
use Rattle.export.specs.StateWords.{state_of, packed}
use Rattle.export.specs.Reports.{writing_report, permission_report, Viewed, viewed, started_report, Told, told, stepped_report, Counted, counted, played_report, Spent, spent, batched_report}
use Rattle.export.specs.Exports.{passed, Read, read, found, c_read, c_write, c_may, view_report, c_view, c_start, c_event, c_play, c_batch}

pub data Function : Type 0 where
  reading : List ℕ → Function
  writing : List ℕ → List ℕ → List ℕ → Function
  asking : List ℕ → List ℕ → ℕ → Access → ℕ → ℕ → Function
  viewing : List ℕ → List ℕ → List ℕ → ℕ → Function
  starting : List ℕ → List ℕ → Function
  happening : List ℕ → List ℕ → List ℕ → List ℕ → List ℕ → Event → Function
  playing : List ℕ → List ℕ → List ℕ → List ℕ → List ℕ → Function
  batching : List ℕ → List ℕ → List ℕ → List ℕ → ℕ → Function

abbrev pub Result : Function → Type 0
Result (Function.reading sheet) = Read
Result (Function.writing map grid buffer) = Left (Left ℕ ℕ) (List ℕ)
Result (Function.asking map grid d k a granted) = Left ℕ ℕ
Result (Function.viewing map grid memory d) = Viewed
Result (Function.starting map grid) = Left ℕ (List ℕ)
Result (Function.happening map grid state memory answer e) = Left Told (List ℕ)
Result (Function.playing map grid state memory trace) = Left Counted (List ℕ)
Result (Function.batching map grid state memory limit) = Left Spent (List ℕ)

abbrev pub result_of : (f : Function) → Result f
result_of (Function.reading sheet) = c_read sheet
result_of (Function.writing map grid buffer) = c_write map grid buffer
result_of (Function.asking map grid d k a granted) = c_may map grid d k a granted
result_of (Function.viewing map grid memory d) = c_view map grid memory d
result_of (Function.starting map grid) = c_start map grid
result_of (Function.happening map grid state memory answer e) = c_event map grid state memory answer e
result_of (Function.playing map grid state memory trace) = c_play map grid state memory trace
result_of (Function.batching map grid state memory limit) = c_batch map grid state memory limit

pub function_coincides : (f : Function) (x y : Result f) → x ≡ result_of f → y ≡ result_of f → x ≡ y
function_coincides f x y p q = coincide p q

-- the call, on what the words are
abbrev pub call : Function → Call
call (Function.reading sheet) = Call.reading sheet
call (Function.writing map grid buffer) = Call.writing (map_of map) (grid_of grid) buffer
call (Function.asking map grid d k a granted) = Call.asking (map_of map) (grid_of grid) d k a
call (Function.viewing map grid memory d) = Call.viewing (map_of map) (grid_of grid) memory d
call (Function.starting map grid) = Call.starting (map_of map) (grid_of grid)
call (Function.happening map grid state memory answer e) = Call.happening (map_of map) (grid_of grid) (state_of state) memory e
call (Function.playing map grid state memory trace) = Call.playing (map_of map) (grid_of grid) (state_of state) memory trace
call (Function.batching map grid state memory limit) = Call.batching (map_of map) (grid_of grid) (state_of state) memory limit

abbrev pub refusing : (f : Function) → ℕ → ℕ → Result f
refusing (Function.reading sheet) n at = read (left n at) (map_words no_map) (grid_bytes no_grid)
refusing (Function.writing map grid buffer) n at = left (left n 0) buffer
refusing (Function.asking map grid d k a granted) n at = left n granted
refusing (Function.viewing map grid memory d) n at = viewed n 0 0
refusing (Function.starting map grid) n at = left n (packed no_state)
refusing (Function.happening map grid state memory answer e) n at = left (told n state answer) memory
refusing (Function.playing map grid state memory trace) n at = left (counted n state 0 0) memory
refusing (Function.batching map grid state memory limit) n at = left (spent n state 0) memory

-- what a report makes of the refused call is the refused function
carried :
    (f : Function) (n at : ℕ) (report : Returned (call f) → Result f) → says (call f) (value (call f)) ≡ Ruling.refused n at
    → ((r : Refusal) → report (refused_call (call f) r at) ≡ refusing f (refusal_number r) at)
    → report (value (call f)) ≡ refusing f n at
carried f n at report q h =
    let u = unchanged (call f) n at q in
    ap report u.2 ∙ h u.0 ∙ ap (λ i. refusing f i at) u.1

pub function_unchanged :
    (f : Function) (n at : ℕ) → says (call f) (value (call f)) ≡ Ruling.refused n at → result_of f ≡ refusing f n at
unfolding c_read c_write c_may c_view c_start c_event c_play c_batch
function_unchanged (Function.reading sheet) n at q = carried (Function.reading sheet) n at found q (λ r. refl)
function_unchanged (Function.writing map grid buffer) n at q =
    carried (Function.writing map grid buffer) n at (passed writing_report) q (λ r. refl)
function_unchanged (Function.asking map grid d k a granted) n at q =
    carried (Function.asking map grid d k a granted) n at (permission_report granted) q (λ r. refl)
function_unchanged (Function.viewing map grid memory d) n at q =
    carried (Function.viewing map grid memory d) n at
    (λ x. view_report (domain (map_of map) d).«data».begin (length x.lent) x.value) q (λ r. refl)
function_unchanged (Function.starting map grid) n at q =
    carried (Function.starting map grid) n at started_report q (λ r. refl)
function_unchanged (Function.happening map grid state memory answer e) n at q =
    carried (Function.happening map grid state memory answer e) n at (passed (stepped_report state answer)) q (λ r. refl)
function_unchanged (Function.playing map grid state memory trace) n at q =
    carried (Function.playing map grid state memory trace) n at (passed (played_report state)) q (λ r. refl)
function_unchanged (Function.batching map grid state memory limit) n at q =
    carried (Function.batching map grid state memory limit) n at (passed (batched_report state)) q (λ r. refl)
