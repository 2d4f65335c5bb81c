-- `export::arcovinda_batch` meets its contract. The batch on what the lent words are, and its report.
use Rattle.export.specs.ExportsLaws.{batch_done}
use Rattle.export.proofs.arcovinda_batch.Goals as goal

pub returns : goal.returns
returns c = search batch_done
