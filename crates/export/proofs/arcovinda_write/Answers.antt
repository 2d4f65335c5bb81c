-- `export::arcovinda_write` meets its contract. The writing of what the lent words are, and its report.
use Rattle.export.specs.ExportsLaws.{write_done}
use Rattle.export.proofs.arcovinda_write.Goals as goal

pub returns : goal.returns
returns c = search write_done
