-- `lines::text::Page::word` meets its contract.
use Rattle.std.proofs.Common.{arith}
use Rattle.lines.specs.PagesLaws.{onto_room, onto_past}
use Rattle.lines.proofs.text.Page.word.Goals as goal

pub returns-then-self : goal.returns-then-self
returns-then-self c = onto_room _ _ _ _ _ (omega arith) c.min-n.ensures (omega arith) c.copy_from_slice.ensures.after

pub returns-else-self : goal.returns-else-self
returns-else-self c = onto_past _ _ (omega arith)
