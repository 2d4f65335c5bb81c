-- The region that an access of its sort mostly lies in, all of it at once.
-- Assumes nothing.
use Rattle.std.specs.Prelude.{◌≡◌, ℕ, ◌+◌, ◌-◌, ◌<◌, ◌≤◌, Bool, true, ◌&&◌, nat_le}
use Rattle.std.proofs.Math.Option.{none}
use Rattle.std.proofs.Common.{arith, leb-true}
use Rattle.model.proofs.BasicsLaws.{and_left, and_right}
use Rattle.model.specs.Map.{may, lowest}
use Rattle.model.proofs.MapLaws.{inside_between, may_read}
use Rattle.model.specs.declared.map.Region.{Region}
use Rattle.model.specs.declared.map.Access.{Access}
use Rattle.model.specs.declared.map.Domain.{Domain}
use Rattle.instructions.specs.AccessLaws.{none_denied}

abbrev pub home : Domain → Access → Region
home d Access.Read = d.«data»
home d Access.Write = d.«data»
home d Access.Fetch = d.code

-- all from a up to past is in r
abbrev pub covers : Region → ℕ → ℕ → Bool
covers r a past = nat_le r.begin a && nat_le past r.end

module _ (d : Domain) where
  may_home : (k : Access) (a : ℕ) → (home d k).begin ≤ a → a < (home d k).end → may d k a ≡ true
  unfolding may
  may_home Access.Read a l h = may_read d Access.Write a (inside_between d.«data» a l h)
  may_home Access.Write a l h = inside_between d.«data» a l h
  may_home Access.Fetch a l h = inside_between d.code a l h

  pub home_all : (k : Access) (a n : ℕ) → (home d k).begin ≤ a → a + n ≤ (home d k).end → lowest (may d k) a n ≡ none
  home_all k a n l h = none_denied (may d k) a n (λ x from below. may_home k x (omega arith) (omega arith))

  pub home_covers : (k : Access) (a past : ℕ) → covers (home d k) a past ≡ true → lowest (may d k) a (past - a) ≡ none
  home_covers k a past e =
      let low = leb-true (home d k).begin a (and_left _ (nat_le past (home d k).end) e) in
      let high = leb-true past (home d k).end (and_right (nat_le (home d k).begin a) _ e) in
      none_denied (may d k) a (past - a) (λ x from below. may_home k x (omega (arith, low)) (omega (arith, high)))
