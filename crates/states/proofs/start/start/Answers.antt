-- `states::start::start` meets its contract: each domain is put at its entry, and at the end all that have a context are.
use Rattle.std.proofs.Common.{◌-◌, ◌<◌, ◌≤◌, min, sym, ◌∙◌, arith, length-set, length-take}
use Rattle.std.proofs.lemmas.List.{get_or-take}
use Rattle.model.specs.Map.{most}
use Rattle.model.proofs.LoopLaws.{fewer}
use Rattle.states.proofs.Lists.{seated_turn, seated_most}
use Rattle.states.proofs.start.start.Goals as goal

pub loop-i-preserved : goal.loop-i-preserved
loop-i-preserved c =
    let l = c.loop-i in
    let n = c.args.m.count in
    let some = length-take c.min.result c.args.m.domains in
    let within : l.i < c.min.result = omega arith in
    record {
      whole = simp length-set l.invariant.whole;
      left = rw (c.at_entry.ensures, get_or-take) (sym (seated_turn _ _ l.i (n - l.i) (omega arith) ∙ rw fewer) ∙ l.invariant.left);
    }

pub returns : goal.returns
returns c =
    let l = c.loop-i in
    let some = length-take c.min.result c.args.m.domains in
    let past : min c.args.m.count most ≤ l.i = omega arith in
    seated_most _ _ l.i l.invariant.whole past l.invariant.left
