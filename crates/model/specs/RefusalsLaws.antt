-- What acceptance tells, as facts: the words of the laws in proofs/RefusalsLaws.antt.
--     Acceptable            the facts that `accepts m g ≡ Ok tt` gives;   Placed: those of one domain
-- Assumes nothing.
use Rattle.std.specs.Prelude.{ℕ, ◌*◌, ◌≤◌, ◌<◌, ◌≡◌, Bool, true, ◌||◌, not, ltb, Ok}
use Rattle.model.specs.Map.{most, inside, overlaps, Grid, nth}
use Rattle.model.specs.Refusals.{zero_domain, within, clear, domain_verdict, cell, from, to, is_channel}
use Rattle.model.specs.declared.map.Domain.{Domain}
use Rattle.model.specs.declared.map.Map.{Map}

-- a run of domains is accepted exactly if each of them is
abbrev pub DomainAccepted : Map → ℕ → Type 0
DomainAccepted m k = domain_verdict m k (nth m k) ≡ Ok tt

-- a run of cells is good exactly if each of them is
abbrev pub cell_good : ℕ → Grid → ℕ → Bool
cell_good count g p = not (cell g p) || is_channel count (from p) (to p)

-- the first n entries past the count are all zero exactly if each is
abbrev pub entry_good : Map → ℕ → Bool
entry_good m k = ltb k m.count || zero_domain (nth m k)

pub record Acceptable (m : Map) (g : Grid) : Type 0 where
  pub some : 1 ≤ m.count
  pub few : m.count ≤ most
  pub unused : (k : ℕ) → k < most → entry_good m k ≡ true
  pub long : 256 ≤ m.length
  pub short : m.length ≤ 65536
  pub kernel : within m.length m.kernel ≡ true
  pub each : (k : ℕ) → k < m.count → DomainAccepted m k
  pub channels : (p : ℕ) → p < most * most → cell_good m.count g p ≡ true

-- ---- what an accepted domain that stands after the first i tells

pub record Placed (m : Map) (i : ℕ) (d : Domain) : Type 0 where
  pub code : within m.length d.code ≡ true
  pub «data» : within m.length d.«data» ≡ true
  pub entry : inside d.code d.entry ≡ true
  pub code_clear : clear m d.code i ≡ true
  pub data_clear : clear m d.«data» i ≡ true
  pub split : not (overlaps d.«data» d.code) ≡ true
