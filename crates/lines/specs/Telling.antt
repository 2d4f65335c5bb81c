-- A trace that is being told: `at` bytes of it are read and n events are told, in the first `end` bytes of a buffer.
-- Assumes nothing.
use Rattle.std.specs.Prelude.{ℕ, List, [], drop, Ok, Err}
use Rattle.model.specs.Map.{Grid}
use Rattle.model.specs.Sheet.{Found}
use Rattle.model.specs.Events.{run, trace_of}
use Rattle.model.specs.Calls.{Left, left}
use Rattle.model.specs.Program.{Printed, event_line, refusal_line, refusal_at_line, of_run, of_sheet}
use Rattle.model.specs.declared.map.Map.{Map}
use Rattle.model.specs.declared.state.State.{State}
use Rattle.model.specs.Answers.{EventRead, Reply}
use Rattle.lines.specs.Puts.{Place, puts}

abbrev pub reply_line : ℕ → Reply → List ℕ
reply_line n (Ok a) = event_line n a
reply_line n (Err r) = refusal_line r

abbrev pub broken_line : EventRead → ℕ → List ℕ
broken_line (Ok (e, n)) at = []
broken_line (Err r) at = refusal_at_line r at

-- what is printed for an accepted map
abbrev pub of_map : Map → Grid → List ℕ → List ℕ → Printed
of_map m g memory bytes = of_sheet (Found.whole m g) memory bytes

-- put into a buffer after what it holds already
abbrev pub told : Printed → Place → Left Place (List ℕ)
told p x = left (puts x p.text) p.memory

-- the rest of the trace
unfoldable pub tells : Map → Grid → List ℕ → ℕ → ℕ → Place → State → List ℕ → Left Place (List ℕ)
tells m g bytes at n x s memory = let t = trace_of at (drop at bytes) in told (of_run n t (run m g s memory t.events)) x
