use Rattle.std.proofs.Common.{rules, ◌≡◌, Ok, Err}
use Rattle.model.proofs.RefusalsLaws.{acceptable}
use Rattle.model.specs.Refusals.{accepts}
use Rattle.model.specs.Calls.{writer}
use Rattle.model.specs.declared.refusal.Refusal.{Refusal}
use Rattle.sheet.specs.WriterLaws.{writer_long, writer_wrote}
use Rattle.sheet.proofs.write.Goals as goal

pub returns-in_err-acceptable : goal.returns-in_err-acceptable
unfolding writer
returns-in_err-acceptable c = search rules

pub returns-in_err-check : goal.returns-in_err-check
returns-in_err-check c =
    let e : c.from_residual-in_err-check.result ≡ Err Refusal.Buffer = search rules in
    let a : accepts c.args.m c.args.g ≡ Ok tt = search rules in
    rw e (writer_long _ _ _ a (search rules))

pub put_sheet-requires : goal.put_sheet-requires
put_sheet-requires c =
    let a : accepts c.args.m c.args.g ≡ Ok tt = search rules in
    ((acceptable _ _ a).few, search rules)

pub returns : goal.returns
returns c =
    let a : accepts c.args.m c.args.g ≡ Ok tt = search rules in
    writer_wrote _ _ _ a (search rules) c.put_sheet.ensures
