-- `lines::text::Page::trace_lines` meets its contract. The loop's invariant: the rest, told from where it has come to, is the whole, and the
-- node is sound there. The measure is how many bytes are left.
use Rattle.std.proofs.Common.{◌-◌, ◌≤◌, ◌≡◌, length}
use Rattle.model.specs.SoundLaws.{Sound}
use Rattle.lines.specs.Pages.{place, paged}
use Rattle.lines.specs.Telling.{tells}
use Rattle.lines.proofs.text.Page.trace_lines.Given as goal

abbrev pub invariant-loop-at : goal.invariant-loop-at
invariant-loop-at l = (length l.memory ≡ l.m.length) × Sound l.m.count l.s × (l.n ≤ l.at)
    × (paged l.self (tells l.m l.g l.trace l.at l.n (place l.self) l.s l.memory)
    ≡ paged l.initial.self (tells l.m l.g l.trace 0 0 (place l.initial.self) l.initial.s l.initial.memory))

abbrev pub decreases-loop-at : goal.decreases-loop-at
decreases-loop-at l = length l.trace - l.at
