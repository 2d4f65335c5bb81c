-- `lines::text::Page::lines` meets its contract. A refused sheet, or what is printed for its map and grid.
use Rattle.std.proofs.Common.{sym, ap, ◌∙◌, arith}
use Rattle.model.specs.Calls.{left}
use Rattle.lines.specs.Pages.{told_onto}
use Rattle.lines.specs.SheetLaws.{printed_refused, printed_whole, whole_accepted}
use Rattle.lines.proofs.text.Page.lines.Goals as goal

pub node_lines-requires : goal.node_lines-requires
node_lines-requires c = whole_accepted c.args.sheet.now c.read-found.ensures c.in-Ok.is (λ i. omega (arith, c.type_inv.sheet i))

pub returns-in-Err : goal.returns-in-Err
returns-in-Err c =
    let a = c.args in
    ap (λ p. left p a.memory.now) c.refusal_at_line.ensures
    ∙ ap (told_onto a.self.now) (sym (printed_refused a.sheet.now c.read-found.ensures a.memory.now a.trace.now _ _ c.in-Err.is))

pub returns-in-Ok : goal.returns-in-Ok
returns-in-Ok c =
    let a = c.args in
    c.node_lines.ensures
    ∙ ap (told_onto a.self.now) (sym (printed_whole a.sheet.now c.read-found.ensures c.in-Ok.is a.memory.now a.trace.now))
