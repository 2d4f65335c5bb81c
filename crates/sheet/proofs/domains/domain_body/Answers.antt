use Rattle.std.proofs.Common.{rules, ◌≡◌, ◌+◌, Err}
use Rattle.std.proofs.lemmas.List.{take_rest}
use Rattle.sheet.specs.DomainLaws.{body_cut, domain_read, domain_bad}
use Rattle.sheet.proofs.domains.domain_body.Goals as goal

pub returns-in_default : goal.returns-in_default
returns-in_default c = body_cut _ _ c.requires.0 c.requires.1 (search rules)

pub returns-in_err-domain_verdict : goal.returns-in_err-domain_verdict
returns-in_err-domain_verdict c =
    let e : c.from_residual.result ≡ Err c.in_err-domain_verdict.field-0.0 = search rules in
    rw e (domain_bad _ _ c.requires.0 c.requires.1 c.domain_of-d.result (search rules) (search (rules, take_rest c.args.s.now (c.args.c.at + 1))) _ (search rules))

pub returns : goal.returns
returns c = domain_read _ _ c.requires.0 c.requires.1 c.domain_of-d.result (search rules) (search (rules, take_rest c.args.s.now (c.args.c.at + 1))) (search rules)
