-- The access rule is source 000's: table 1 (its unprivileged rows, DOM, and the kernel's, SK), lemma 7 and corollary 10, for acceptable maps.
--     code_row, data_row     table 1, DOM: what domain d may do in its own code and in its own data
--     kernel_denied          table 1, SK at the unprivileged level: nothing
--     other_denied           corollary 10: nothing in another domain
--     outside_denied         000's lemma 2: nothing anywhere else
--     write_reads, fetch_reads   lemma 7
-- Assumes nothing.
use Rattle.std.specs.Prelude.{ℕ, ◌-◌, ◌≤◌, ◌<◌, ◌≡◌, true, false, not, ◌≢◌, ◌⊎◌, ltb, Ok}
use Rattle.std.proofs.Common.{⊎_elim, arith, ltb-true, ltb-false}
use Rattle.model.proofs.BasicsLaws.{by_bool, and_left, and_right}
use Rattle.model.specs.Map.{inside, overlaps, Grid, domain, may}
use Rattle.model.proofs.MapLaws.{apart, overlaps_swap, may_read}
use Rattle.model.specs.Refusals.{free_of, accepts}
use Rattle.model.specs.RefusalsLaws.{Placed}
use Rattle.model.proofs.RefusalsLaws.{acceptable, placed, clear_kernel, clear_domain}
use Rattle.model.specs.declared.map.Region.{Region}
use Rattle.model.specs.declared.map.Domain.{Domain}
use Rattle.model.specs.declared.map.Map.{Map}
use Rattle.model.specs.declared.map.Access.{Access}

-- an address of the domain: in its code or its data
abbrev pub Of : Domain → ℕ → Type 0
Of d a = (inside d.code a ≡ true) ⊎ (inside d.«data» a ≡ true)

pub outside_denied :
    (d : Domain) (k : Access) (a : ℕ) → inside d.code a ≡ false → inside d.«data» a ≡ false → may d k a ≡ false
unfolding may
outside_denied d Access.Read a e f = rw (e, f)
outside_denied d Access.Write a e f = f
outside_denied d Access.Fetch a e f = e

-- an address that lies in a region apart from both sub-regions is denied
away : (d : Domain) (r : Region) (k : Access) (a : ℕ) → inside r a ≡ true → free_of r d ≡ true → may d k a ≡ false
away d r k a e f =
    outside_denied d k a
    (apart r d.code a (and_left (not (overlaps r d.code)) _ f) e)
    (apart r d.«data» a (and_right (not (overlaps r d.code)) _ f) e)

free_swap :
    (d : Domain) (r : Region) → not (overlaps d.code r) ≡ true → not (overlaps d.«data» r) ≡ true → free_of r d ≡ true
free_swap d r e f = rw (overlaps_swap r d.code, overlaps_swap r d.«data», e, f)

-- two domains that share no address, and the same said the other way round
abbrev Apart : Domain → Domain → Type 0
Apart d e = (free_of d.code e ≡ true) × (free_of d.«data» e ≡ true)

apart_swap : (d e : Domain) → Apart d e → Apart e d
apart_swap d e p = (
  free_swap d e.code (and_left _ (not (overlaps d.code e.«data»)) p.0) (and_left _ (not (overlaps d.«data» e.«data»)) p.1),
  free_swap d e.«data» (and_right (not (overlaps d.code e.code)) _ p.0) (and_right (not (overlaps d.«data» e.code)) _ p.1),
)

module _ (m : Map) (g : Grid) (ok : accepts m g ≡ Ok tt) (d : ℕ) (low : 1 ≤ d) (high : d ≤ m.count) where
  own : Placed m (d - 1) (domain m d)
  own = placed m (d - 1) (domain m d) ((acceptable m g ok).each (d - 1) (omega arith))

  pub code_row :
      (a : ℕ) → inside (domain m d).code a ≡ true
      → (may (domain m d) Access.Read a ≡ true) × (may (domain m d) Access.Write a ≡ false) × (may (domain m d) Access.Fetch a ≡ true)
  unfolding may
  code_row a e =
      ((rw e), apart (domain m d).code (domain m d).«data» a (rw overlaps_swap own.split) e, e)

  pub data_row :
      (a : ℕ) → inside (domain m d).«data» a ≡ true
      → (may (domain m d) Access.Read a ≡ true) × (may (domain m d) Access.Write a ≡ true) × (may (domain m d) Access.Fetch a ≡ false)
  unfolding may
  data_row a e =
      (may_read (domain m d) Access.Write a e, e, apart (domain m d).«data» (domain m d).code a own.split e)

  pub kernel_denied : (k : Access) (a : ℕ) → inside m.kernel a ≡ true → may (domain m d) k a ≡ false
  kernel_denied k a e =
      away (domain m d) m.kernel k a e
      (free_swap (domain m d) m.kernel
      (clear_kernel m (domain m d).code (d - 1) own.code_clear)
      (clear_kernel m (domain m d).«data» (d - 1) own.data_clear))

  pub write_reads : (a : ℕ) → may (domain m d) Access.Write a ≡ true → may (domain m d) Access.Read a ≡ true
  write_reads a e = may_read (domain m d) Access.Write a e

  pub fetch_reads : (a : ℕ) → may (domain m d) Access.Fetch a ≡ true → may (domain m d) Access.Read a ≡ true
  fetch_reads a e = may_read (domain m d) Access.Fetch a e

module _ (m : Map) (g : Grid) (ok : accepts m g ≡ Ok tt) where
  later_apart : (f d : ℕ) → 1 ≤ f → f < d → d ≤ m.count → Apart (domain m d) (domain m f)
  later_apart f d l h b =
      let p = own m g ok d (omega arith) b in (
        clear_domain m (domain m d).code (d - 1) (f - 1) p.code_clear (omega arith),
        clear_domain m (domain m d).«data» (d - 1) (f - 1) p.data_clear (omega arith),
      )

  domains_apart :
      (f d : ℕ) → 1 ≤ f → f ≤ m.count → 1 ≤ d → d ≤ m.count → f ≢ d → Apart (domain m f) (domain m d)
  domains_apart f d l h l' h' n =
      by_bool (ltb f d)
      (λ e. apart_swap (domain m d) (domain m f) (later_apart f d l (ltb-true f d e) h'))
      (λ e. later_apart d f l' (omega (arith, ltb-false f d e)) h)

  pub other_denied :
      (f d : ℕ) → 1 ≤ f → f ≤ m.count → 1 ≤ d → d ≤ m.count → f ≢ d
      → (k : Access) (a : ℕ) → Of (domain m f) a → may (domain m d) k a ≡ false
  other_denied f d l h l' h' n k a =
      let p = domains_apart f d l h l' h' n in
      ⊎_elim (λ e. away (domain m d) (domain m f).code k a e p.0) (λ e. away (domain m d) (domain m f).«data» k a e p.1)
