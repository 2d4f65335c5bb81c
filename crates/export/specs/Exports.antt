-- The exported functions: each is the call on the map, the grid and the state that the lent words are, and reports what it returned.
-- Assumes nothing.
use Rattle.std.specs.Prelude.{ℕ, List, length, Ok, Err}
use Rattle.model.specs.Map.{Grid, domain}
use Rattle.model.specs.Refusals.{refusal_number}
use Rattle.model.specs.Calls.{Left, left, lent_verdict, view, question, reader, writer, starter, stepper, player, batcher}
use Rattle.model.specs.declared.map.Access.{Access}
use Rattle.model.specs.declared.event.Event.{Event}
use Rattle.model.specs.Answers.{Verdict}
use Rattle.model.specs.declared.call.Sheet.{Sheet}
use Rattle.export.specs.MapWords.{map_of, map_words, grid_of, grid_bytes}
use Rattle.export.specs.StateWords.{state_of}
use Rattle.export.specs.Reports.{reading_report, writing_report, permission_report, Viewed, viewed, started_report, Told, stepped_report, Counted, played_report, Spent, batched_report}

-- what a call returned is reported, and what it was lent stands as the call left it
abbrev pub passed : {A B C : Type 0} → (A → B) → Left A C → Left B C
passed f x = left (f x.value) x.lent

pub record Read : Type 0 where
  pub report : Left ℕ ℕ
  pub map : List ℕ
  pub grid : List ℕ

abbrev pub read : Left ℕ ℕ → List ℕ → List ℕ → Read
read x m g = record { report = x; map = m; grid = g }

abbrev pub found : Left Sheet Grid → Read
found x = read (reading_report x.value.reading) (map_words x.value.map) (grid_bytes x.lent)

unfoldable pub c_read : List ℕ → Read
c_read sheet = found (reader sheet)

unfoldable pub c_write : List ℕ → List ℕ → List ℕ → Left (Left ℕ ℕ) (List ℕ)
c_write map grid buffer = passed writing_report (writer (map_of map) (grid_of grid) buffer)

unfoldable pub c_may : List ℕ → List ℕ → ℕ → Access → ℕ → ℕ → Left ℕ ℕ
c_may map grid d k a granted = permission_report granted (question (map_of map) (grid_of grid) d k a)

abbrev pub view_report : ℕ → ℕ → Verdict → Viewed
view_report b l (Ok tt) = viewed 0 b l
view_report b l (Err r) = viewed (refusal_number r) 0 0

unfoldable pub c_view : List ℕ → List ℕ → List ℕ → ℕ → Viewed
c_view map grid memory d =
    let m = map_of map in
    let g = grid_of grid in
    view_report (domain m d).«data».begin (length (view m g memory d)) (lent_verdict m g memory d)

unfoldable pub c_start : List ℕ → List ℕ → Left ℕ (List ℕ)
c_start map grid = started_report (starter (map_of map) (grid_of grid))

unfoldable pub c_event : List ℕ → List ℕ → List ℕ → List ℕ → List ℕ → Event → Left Told (List ℕ)
c_event map grid state memory answer e =
    passed (stepped_report state answer) (stepper (map_of map) (grid_of grid) (state_of state) memory e)

unfoldable pub c_play : List ℕ → List ℕ → List ℕ → List ℕ → List ℕ → Left Counted (List ℕ)
c_play map grid state memory trace =
    passed (played_report state) (player (map_of map) (grid_of grid) (state_of state) memory trace)

unfoldable pub c_batch : List ℕ → List ℕ → List ℕ → List ℕ → ℕ → Left Spent (List ℕ)
c_batch map grid state memory limit =
    passed (batched_report state) (batcher (map_of map) (grid_of grid) (state_of state) memory limit)
