use Rattle.std.proofs.Common.{rules, ◌≡◌, Err}
use Rattle.model.specs.Sheet.{sheet_read}
use Rattle.sheet.specs.HeadLaws.{length_form, form_refused, form_decided}
use Rattle.sheet.proofs.head.length_record.Goals as goal

pub returns-in_err-one_record : goal.returns-in_err-one_record
unfolding sheet_read
returns-in_err-one_record c = search (rules, form_refused length_form c.args.s.now c.in_err-one_record.ensures)

pub returns-in_err-check : goal.returns-in_err-check
unfolding sheet_read
returns-in_err-check c =
    let e : c.from_residual-in_err-check.result ≡ Err c.in_err-check.field-0.0 = search rules in
    let d = form_decided length_form c.args.s.now c.in_ok-one_record.ensures {v = c.from_le_bytes-n.result} (search rules) {w = c.check.result} (search rules) in
    rw e (rw c.in_err-check.was at d)

pub returns : goal.returns
unfolding sheet_read
returns c =
    let d = form_decided length_form c.args.s.now c.in_ok-one_record.ensures {v = c.from_le_bytes-n.result} (search rules) {w = c.check.result} (search rules) in
    rw c.in_ok-check.was at d
