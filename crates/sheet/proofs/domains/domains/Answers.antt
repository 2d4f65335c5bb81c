use Rattle.std.proofs.Common.{rules, arith, ◌≡◌, ◌∙◌, ap, suc, ◌+◌, ◌-◌, drop}
use Rattle.model.specs.Map.{most}
use Rattle.model.specs.Sheet.{domains_read}
use Rattle.model.specs.declared.map.Map.{Map}
use Rattle.sheet.proofs.domains.domains.Goals as goal

pub returns-in-Ok-None : goal.returns-in-Ok-None
returns-in-Ok-None c =
    let room : suc (most - (c.loop.counter + 1)) ≡ most - c.loop.counter = omega arith in
    search (rules, room, c.domain_record.ensures.reads (most - (c.loop.counter + 1)))

pub returns-in-Err : goal.returns-in-Err
returns-in-Err c =
    let room : suc (most - (c.loop.counter + 1)) ≡ most - c.loop.counter = omega arith in
    search (rules, room, c.domain_record.ensures.reads (most - (c.loop.counter + 1)))

pub returns : goal.returns
unfolding domains_read
returns c =
    let none : most - c.loop.counter ≡ 0 = omega arith in
    (rw none at c.loop.invariant.1) ∙ ap (λ (m : Map). domains_read most 14 m (drop 14 c.args.s.now)) c.beginning_map-map.ensures
