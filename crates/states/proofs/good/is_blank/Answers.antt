-- `states::good::is_blank` meets its contract. The default context is the blank one, and eight registers are zero where they equal eight zeros.
use Rattle.std.proofs.Common.{rules, ◌≡◌, ◌∙◌}
use Rattle.model.specs.States.{is_blank, blank, box_good}
use Rattle.states.proofs.Lists.{zeros_default, is_context, zeros_equal}
use Rattle.states.proofs.good.is_blank.Goals as goal

pub returns : goal.returns
unfolding is_blank box_good
returns c =
    let d = c.default.ensures in
    let m = d.1.1.1 in
    let k : c.default.result ≡ blank = is_context _ (zeros_default _ d.0) d.1.0 d.1.1.0 m.0 m.1.0 m.1.1 in
    let h = rw k at c.eq.ensures in
    h ∙ search (rules, zeros_equal)
