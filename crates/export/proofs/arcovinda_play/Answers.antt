-- `export::arcovinda_play` meets its contract. The trace on what the lent words are, and its report.
use Rattle.export.specs.ExportsLaws.{play_done}
use Rattle.export.proofs.arcovinda_play.Goals as goal

pub returns : goal.returns
returns c = search play_done
