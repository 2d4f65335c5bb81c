-- Bytes that are put into a buffer from some place on, each where there is room.
-- Assumes nothing.
use Rattle.std.specs.Prelude.{ℕ, ◌+◌, List, [], ◌∷◌, ltb, length, set, if◌then◌else◌}
use Rattle.model.specs.Calls.{Left, left}

-- the next place, and the buffer
abbrev pub Place : Type 0
Place = Left ℕ (List ℕ)

unfoldable pub put : Place → ℕ → Place
put x b = if ltb x.value (length x.lent) then left (x.value + 1) (set x.lent x.value b) else x

unfoldable pub puts : Place → List ℕ → Place
puts x [] = x
puts x (b ∷ rest) = puts (put x b) rest
