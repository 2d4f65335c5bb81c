use Rattle.std.proofs.Common.{rules, arith, ◌-◌, ◌≡◌}
use Rattle.model.proofs.LoopLaws.{fewer}
use Rattle.model.specs.Refusals.{domains_verdict}
use Rattle.rights.proofs.Turns.{domains_turn}
use Rattle.rights.proofs.domain.domains_verdict.Goals as goal

pub returns-in_err-stands : goal.returns-in_err-stands
returns-in_err-stands c =
    let turn = domains_turn c.args.m c.loop-i.i (c.args.m.count - c.loop-i.i) (omega arith) in
    search (rules, turn, c.loop-i.invariant)

pub loop-i-preserved : goal.loop-i-preserved
loop-i-preserved c =
    let turn = domains_turn c.args.m c.loop-i.i (c.args.m.count - c.loop-i.i) (omega arith) in
    search (rules, turn, fewer c.args.m.count c.loop-i.i, c.loop-i.invariant)

pub returns : goal.returns
unfolding domains_verdict
returns c =
    let none : c.args.m.count - c.loop-i.i ≡ 0 = omega arith in
    rw none at c.loop-i.invariant
