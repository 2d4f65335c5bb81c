-- What an accepted view stands on.
-- Assumes nothing.
use Rattle.std.specs.Prelude.{Ok}
use Prim.Native.Nat.{ℕ, ◌-◌, ◌≤◌, ◌<◌}
use mathlib.Core.Path.{◌≡◌, sym, ◌∙◌}
use mathlib.Core.List.{List}
use native.Mathlib.Omega.{arith}
use lib.Dec.{leb}
use lib.ListN.{length, take, drop}
use borrow.Author.Tests.{leb-true, eqb-true}
use Rattle.model.proofs.BasicsLaws.{and_left, and_right}
use Rattle.model.specs.Map.{most, Grid, is_domain, domain}
use Rattle.model.proofs.MapLaws.{in_range}
use Rattle.model.specs.Refusals.{check, ◌▸◌, accepts}
use Rattle.model.proofs.RefusalsLaws.{check_true, then_left, then_right, acceptable, placed}
use Rattle.model.specs.Calls.{as_long, lent_verdict, view}
use Rattle.model.specs.declared.map.Region.{Region}
use Rattle.model.specs.declared.map.Map.{Map}
use Rattle.model.specs.declared.refusal.Refusal.{Refusal}
use Rattle.model.specs.Answers.{Verdict}

-- ---- the view: an accepted call names one of the map's eight entries, and the entry's data lies in the lent memory

module _ (m : Map) (g : Grid) (memory : List ℕ) (d : ℕ) {v : Verdict} (A : v ≡ lent_verdict m g memory d) where
  abbrev own : Region
  own = (domain m d).«data»

  module _ (e : v ≡ Ok tt) where
    pub view_part : take (own.end - own.begin) (drop own.begin memory) ≡ view m g memory d
    unfolding view
    view_part = rw (sym A, e)

    pub view_bounds : (1 ≤ d) × (d - 1 < most) × (own.begin ≤ own.end) × (own.end ≤ length memory)
    unfolding lent_verdict
    view_bounds =
        let last = check (is_domain m.count d) Refusal.NoDomain in
        let t : accepts m g ▸ as_long m memory ▸ last ≡ Ok tt = sym A ∙ e in
        let u = then_right (accepts m g) (as_long m memory ▸ last) t in
        let a = acceptable m g (then_left (accepts m g) _ t) in
        let l = eqb-true (length memory) _ (check_true _ Refusal.Memory (then_left (as_long m memory) last u)) in
        let r = in_range m.count d (check_true _ Refusal.NoDomain (then_right (as_long m memory) last u)) in
        let p = (placed m (d - 1) (domain m d) (a.each (d - 1) (omega (arith, r.0, r.1)))).«data» in
        let x = leb-true own.begin own.end (and_left _ (leb own.end m.length) p) in
        let y = leb-true own.end m.length (and_right (leb own.begin own.end) _ p) in
        (r.0, omega (arith, a.few, r.0, r.1), x, omega (arith, l, y))
