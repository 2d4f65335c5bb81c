use Rattle.std.proofs.Common.{rules}
use Rattle.sheet.specs.DomainLaws.{missing, none_yet, others}
use Rattle.sheet.proofs.domains.domain_record.Goals as goal

pub returns-in-None : goal.returns-in-None
returns-in-None c = missing _ _ (search rules)

pub returns-in-Some : goal.returns-in-Some
returns-in-Some c = none_yet _ _ (search rules) (search rules) c.if-c-eq0.true

pub returns-in-Some-2 : goal.returns-in-Some-2
returns-in-Some-2 c = others _ _ (search rules) (search rules) c.if-c-eq0.false
