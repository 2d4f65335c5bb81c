-- Demand 2: "A sheet that is written reads back as the same map, one that is read writes back as the same bytes".
-- Assumes nothing.
use Rattle.std.specs.Prelude.{ℕ, ◌≤◌, ◌≡◌, List, ◌++◌, length, drop, Ok}
use Rattle.model.specs.Map.{Grid}
use Rattle.model.specs.Calls.{left, reader, writer}
use Rattle.model.specs.declared.map.Map.{Map}
use Rattle.model.specs.Answers.{Writing}
use Rattle.model.specs.declared.call.Sheet.{Sheet}

-- where the writer writes m and g to the buffer, x and h are they
abbrev pub ReadsBack : Map → Grid → List ℕ → Sheet → Grid → Type 0
ReadsBack m g buffer x h =
    (n : ℕ) → (writer m g buffer).value ≡ Ok n → left x h ≡ left (record { reading = Ok tt; map = m }) g

-- where the reader finds s whole and the buffer is as long, w is its length, and the buffer then holds s and what it held past it
abbrev pub WritesBack : List ℕ → List ℕ → Writing → List ℕ → Type 0
WritesBack s buffer w after =
    (reader s).value.reading ≡ Ok tt → length s ≤ length buffer
    → left w after ≡ left (Ok (length s)) (s ++ drop (length s) buffer)
