use Rattle.std.proofs.Common.{rules, arith, ◌<◌, length, zero-add, ap, ◌∙◌}
use Rattle.std.proofs.lemmas.List.{get_or-take}
use Rattle.model.specs.Map.{absent}
use Rattle.model.specs.Sheet.{domain_record, domain_records}
use Rattle.model.proofs.SheetLaws.{domains_length}
use Rattle.sheet.specs.LaidLaws.{laid_none, laid_then}
use Rattle.sheet.specs.RunLaws.{domains_split}
use Rattle.sheet.proofs.writer.put_domains.Goals as goal

pub loop-d-init : goal.loop-d-init
unfolding domain_records
loop-d-init c = laid_none c.args.at c.args.buffer.now

pub lay-next-requires : goal.lay-next-requires
lay-next-requires c =
    let i : c.loop-d.d-index < c.args.m.count = search rules in
    omega (arith, ap length c.domain_record.ensures, c.loop-d.invariant.past, domains_length c.args.m 0 c.loop-d.d-index)

pub loop-d-preserved : goal.loop-d-preserved
unfolding domain_records
loop-d-preserved c =
    let i : c.loop-d.d-index < c.from.result = search rules in
    let d = c.domain_record.ensures ∙ ap domain_record (get_or-take c.from.result c.args.m.domains c.loop-d.d-index absent i) in
    rw (domains_split, zero-add, ← d) (laid_then c.loop-d.invariant c.lay-next.ensures)
