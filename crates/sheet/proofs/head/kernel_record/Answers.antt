use Rattle.std.proofs.Common.{rules, ◌≡◌, Err}
use Rattle.sheet.specs.HeadLaws.{kernel_form, form_refused, form_decided}
use Rattle.sheet.proofs.head.kernel_record.Goals as goal

pub returns-in_err-one_record : goal.returns-in_err-one_record
returns-in_err-one_record c = search (rules, form_refused (kernel_form c.args.n) c.args.s.now c.in_err-one_record.ensures)

pub returns-in_err-check : goal.returns-in_err-check
returns-in_err-check c =
    let e : c.from_residual-in_err-check.result ≡ Err c.in_err-check.field-0.0 = search rules in
    let d = form_decided (kernel_form c.args.n) c.args.s.now c.in_ok-one_record.ensures c.region_of-kernel.ensures {w = c.check.result} (search rules) in
    rw e (rw c.in_err-check.was at d)

pub returns : goal.returns
returns c =
    let d = form_decided (kernel_form c.args.n) c.args.s.now c.in_ok-one_record.ensures c.region_of-kernel.ensures {w = c.check.result} (search rules) in
    rw c.in_ok-check.was at d
