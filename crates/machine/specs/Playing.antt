-- A trace that is being played: `at` bytes of it are read and k events are done.
-- Assumes nothing.
use Rattle.std.specs.Prelude.{ℕ, ◌+◌, List, length, drop, Ok, Err}
use Rattle.model.specs.Map.{Grid}
use Rattle.model.specs.Events.{run, trace_of}
use Rattle.model.specs.Calls.{Left, left}
use Rattle.model.specs.declared.map.Map.{Map}
use Rattle.model.specs.declared.state.State.{State}
use Rattle.model.specs.declared.call.Stop.{Stop}
use Rattle.model.specs.Answers.{EventRead, Close, refused_at}
use Rattle.model.specs.declared.call.Played.{Played}

-- how a trace closes at a record that reads so
abbrev pub closed : EventRead → ℕ → Close
closed (Ok (e, n)) at = Ok tt
closed (Err r) at = Err (Stop.Broken (refused_at r at))

-- what playing the rest comes to
unfoldable pub plays : Map → Grid → List ℕ → ℕ → ℕ → State → List ℕ → Left Played (List ℕ)
plays m g bytes at k s memory =
    let t = trace_of at (drop at bytes) in
    let r = run m g s memory t.events in
    left (record { close = t.close; events = k + length t.events; state = r.state }) r.memory
