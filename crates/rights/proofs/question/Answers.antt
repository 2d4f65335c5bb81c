use Rattle.std.proofs.Common.{rules, arith, sym, ◌∙◌}
use Rattle.model.proofs.MapLaws.{in_range}
use Rattle.model.proofs.RefusalsLaws.{acceptable, check_true}
use Rattle.model.specs.declared.refusal.Refusal.{Refusal}
use Rattle.rights.proofs.question.Goals as goal

pub bounds-m-from : goal.bounds-m-from
bounds-m-from c =
    let few = (acceptable c.args.m c.args.g (search rules)).few in
    let range = in_range c.args.m.count c.args.d (sym c.is_domain.ensures ∙ check_true c.is_domain.result Refusal.NoDomain (search rules)) in
    omega (arith, few, range)
