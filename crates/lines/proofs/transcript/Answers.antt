-- `lines::transcript` meets its contract: the page's buffer is the lent one, and its bytes are what is printed.
use Rattle.std.proofs.Common.{refl, ap, ◌∙◌, rules}
use Rattle.model.specs.Calls.{left}
use Rattle.lines.specs.PagesLaws.{told_shown}
use Rattle.lines.proofs.transcript.Goals as goal

pub returns : goal.returns
returns c =
    let same = ap (λ l. l.value.text.ghost_name) c.lines.ensures in
    ap (λ t. left (left c.lines.new.self.end t) c.lines.new.memory) (search (rules, same)) ∙ told_shown _ _ refl c.lines.ensures
