-- `lines::text::Page::active_line` meets its contract.
use Rattle.std.proofs.Common.{ap, ◌∙◌, ◌++◌}
use Rattle.model.specs.Program.{words, decimal, active_line}
use Rattle.lines.specs.Pages.{onto}
use Rattle.lines.specs.PagesLaws.{onto_then}
use Rattle.lines.proofs.text.Page.active_line.Goals as goal

pub returns : goal.returns
unfolding active_line
returns c =
    let named = c.named.ensures ∙ ap (λ n. onto c.args.self.now (words "active " ++ decimal n)) c.from.ensures in
    onto_then _ (words "active " ++ decimal c.args.d) (words "\n") named c.word.ensures
