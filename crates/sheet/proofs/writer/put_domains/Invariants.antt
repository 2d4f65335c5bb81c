-- The records of the domains that were passed are laid.
use Rattle.model.specs.Sheet.{domain_records}
use Rattle.sheet.specs.Laid.{Laid}
use Rattle.sheet.proofs.writer.put_domains.Given as goal

abbrev pub invariant-loop-d : goal.invariant-loop-d
invariant-loop-d l = Laid l.at (domain_records l.fn.m 0 l.d-index) l.initial.buffer l.next l.buffer
