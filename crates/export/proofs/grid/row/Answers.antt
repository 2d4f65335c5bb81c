-- `export::grid::row` meets its contract. Each byte is tested as the definition does.
use Rattle.std.proofs.Common.{false, rules}
use Rattle.export.specs.MapWords.{mark_at}
use Rattle.export.specs.WordsLaws.{eight_made}
use Rattle.export.proofs.grid.row.Goals as goal

pub returns : goal.returns
returns c = eight_made (mark_at c.args.bytes 0) (λ t y q l k. (search rules, search rules)) false c.from_fn.ensures.items
