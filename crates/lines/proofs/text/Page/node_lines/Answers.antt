-- `lines::text::Page::node_lines` meets its contract. Refused with 9, or the lines of the trace.
use Rattle.std.proofs.Common.{sym, ap, ◌∙◌}
use Rattle.model.specs.Calls.{left}
use Rattle.lines.specs.Pages.{told_onto}
use Rattle.lines.specs.SheetLaws.{told_refused, told_accepted, told_long}
use Rattle.lines.proofs.text.Page.node_lines.Goals as goal

pub trace_lines-requires : goal.trace_lines-requires
trace_lines-requires c =
    let a = c.args in
    (c.requires, told_long a.m a.g c.requires a.memory.now c.view_verdict.ensures c.in-Ok.is)

pub returns-in-Err : goal.returns-in-Err
returns-in-Err c =
    let a = c.args in
    ap (λ p. left p a.memory.now) c.refusal_line.ensures
    ∙ ap (told_onto a.self.now) (sym (told_refused a.m a.g c.requires a.memory.now c.view_verdict.ensures _ a.trace.now c.in-Err.is))

pub returns-in-Ok : goal.returns-in-Ok
returns-in-Ok c =
    let a = c.args in
    c.trace_lines.ensures
    ∙ ap (told_onto a.self.now) (sym (told_accepted a.m a.g c.requires a.memory.now c.view_verdict.ensures a.trace.now c.in-Ok.is))
