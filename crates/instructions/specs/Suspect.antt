-- "registers above 7 in body order": the byte of a body that decides.
-- Assumes nothing.
use Rattle.std.specs.Prelude.{ℕ, List, Option, nat_lt}
use Rattle.std.specs.List.{find}

-- the first above 7
abbrev pub above : List ℕ → Option ℕ
above rs = find (λ r. nat_lt 7 r) rs
