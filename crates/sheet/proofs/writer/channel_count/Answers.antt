use Rattle.std.proofs.Common.{rules, arith, ◌≡◌, ◌*◌}
use Rattle.model.specs.Map.{most}
use Rattle.model.specs.GridLaws.{marks, channel_count}
use Rattle.sheet.specs.RunLaws.{marks_split}
use Rattle.sheet.proofs.writer.channel_count.Goals as goal

pub loop-p-init : goal.loop-p-init
unfolding marks
loop-p-init c = search rules

pub loop-p-preserved : goal.loop-p-preserved
unfolding marks
loop-p-preserved c = search (rules, marks_split c.args.g 0 c.loop-p.p 1)

pub returns : goal.returns
unfolding channel_count
returns c =
    let all : c.loop-p.p ≡ most * most = omega arith in
    (rw all at c.loop-p.invariant.1, search rules)
