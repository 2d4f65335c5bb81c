-- `export::happen` meets its contract. The event on what the lent words are, and its report.
use Rattle.export.specs.ExportsLaws.{event_done}
use Rattle.export.proofs.happen.Goals as goal

pub returns : goal.returns
returns c = search event_done
