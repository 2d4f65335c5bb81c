-- With room for those domains that may still come, reading on from here is reading from the start.
use Rattle.std.proofs.Common.{◌≡◌, ◌-◌, drop}
use Rattle.model.specs.Map.{most}
use Rattle.model.specs.Sheet.{domains_read}
use Rattle.sheet.proofs.domains.domains.Given as goal

abbrev pub invariant-loop : goal.invariant-loop
invariant-loop l = (l.map.count ≡ l.counter)
    × (domains_read (most - l.counter) l.at l.map (drop l.at l.s) ≡ domains_read most l.initial.at l.initial.map (drop l.initial.at l.s))
