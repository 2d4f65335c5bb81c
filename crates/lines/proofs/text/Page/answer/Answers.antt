-- `lines::text::Page::answer` meets its contract.
use Rattle.std.proofs.Common.{ap, ◌∙◌, ◌++◌}
use Rattle.model.specs.Program.{words, decimal, reason_text, answer_text}
use Rattle.lines.specs.Pages.{onto}
use Rattle.lines.specs.PagesLaws.{onto_then}
use Rattle.lines.proofs.text.Page.answer.Goals as goal

pub returns-in-Faulted : goal.returns-in-Faulted
unfolding answer_text
returns-in-Faulted c =
    let d = words "faulted " ++ decimal c.in-Faulted.d in
    let named = c.named-in-Faulted.ensures ∙ ap (λ n. onto c.args.self.now (words "faulted " ++ decimal n)) c.from-in-Faulted.ensures in
    rw c.in-Faulted.is
    (onto_then _ (d ++ words " ") (reason_text c.in-Faulted.r) (onto_then _ d (words " ") named c.word-in-Faulted.ensures) c.reason.ensures)
