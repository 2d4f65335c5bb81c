-- A page: a lent buffer, and how many of its first bytes are set. What is put onto it stands after these, as far as there is room.
-- Assumes nothing.
use Rattle.std.specs.Prelude.{ℕ, List}
use Rattle.model.specs.Calls.{Left, left}
use Rattle.model.specs.Program.{Printed}
use Rattle.lines.specs.declared.text.Page.{Page}
use Rattle.lines.specs.Puts.{Place, puts}
use Rattle.lines.specs.Telling.{told}

abbrev pub place : Page → Place
place p = left p.end p.text.now

-- the same buffer, at another place
abbrev pub moved : Page → Place → Page
moved p x = record { text = record p.text { now = x.lent }; end = x.value }

abbrev pub onto : Page → List ℕ → Page
onto p w = moved p (puts (place p) w)

-- .. with the memory beside it
abbrev pub paged : Page → Left Place (List ℕ) → Left Page (List ℕ)
paged p l = left (moved p l.value) l.lent

abbrev pub told_onto : Page → Printed → Left Page (List ℕ)
told_onto p q = paged p (told q (place p))
