-- `export::arcovinda_read` meets its contract. The reading, and its report.
use Rattle.export.specs.ExportsLaws.{read_done}
use Rattle.export.proofs.arcovinda_read.Goals as goal

pub returns : goal.returns
returns c =
    read_done _
    c.read-found.ensures
    c.report_reading.ensures
    c.map_words.ensures
    c.grid_bytes.ensures
