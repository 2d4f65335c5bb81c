-- `export::grid::row_bytes` meets its contract. Each mark's byte is that of the definition.
use Rattle.std.proofs.Common.{ℕ, false, get_or, rules}
use Rattle.export.specs.Words.{flag}
use Rattle.export.specs.WordsLaws.{eight_made}
use Rattle.export.proofs.grid.row_bytes.Goals as goal

pub returns : goal.returns
returns c =
    eight_made (λ (t : ℕ). flag (get_or c.args.r t false)) (λ t y q l k. (search rules, search rules)) 0 c.from_fn.ensures.items
