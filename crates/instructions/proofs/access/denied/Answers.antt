-- `instructions::access::denied` meets its contract. All of the access is in its home, or the search looks.
use Rattle.std.proofs.Common.{◌≡◌, true, false, rules, tests, sym, ◌∙◌, arith}
use Rattle.std.proofs.lemmas.Iterator.{first_from_Range}
use Rattle.model.specs.Map.{may}
use Rattle.instructions.specs.Home.{home_covers}
use Rattle.instructions.specs.AccessLaws.{lowest_found}
use Rattle.instructions.proofs.access.denied.Goals as goal

pub returns-then-covers : goal.returns-then-covers
returns-then-covers c =
    let a = c.args in
    sym (home_covers a.own a.k a.a a.past (rw c.home.ensures at (sym c.covers.ensures ∙ c.if-covers.true)))

pub returns : goal.returns
returns c =
    let a = c.args in
    lowest_found (may a.own a.k) a.a a.past _
    (first_from_Range _ _ _ _ (λ x. may a.own a.k x ≡ false) (λ x. may a.own a.k x ≡ true) c.find.ensures.ran
    (λ x q k. grind (arith, tests)) (λ x q k. (search rules, grind (arith, tests))))
