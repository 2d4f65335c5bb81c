-- A record by itself: the words of the laws in proofs/RecordLaws.antt.
--     Narrow, Small         numbers that four bytes hold, as an accepted map's are;   Octets: bytes
--     Present               a record that is there
-- Assumes nothing.
use Rattle.std.specs.Prelude.{ℕ, ◌^◌, ◌≤◌, ◌<◌, ◌≡◌, List, ◌∷◌, length, get_or, take, drop}
use Rattle.model.specs.Map.{Grid}
use Rattle.model.specs.Sheet.{Found}
use Rattle.model.specs.declared.map.Region.{Region}
use Rattle.model.specs.declared.map.Domain.{Domain}
use Rattle.model.specs.declared.map.Map.{Map}

-- ---- numbers that four bytes hold

pub record Narrow (r : Region) : Type 0 where
  pub begin : r.begin < 2 ^ 32
  pub end : r.end < 2 ^ 32

pub record Small (d : Domain) : Type 0 where
  pub code : Narrow d.code
  pub «data» : Narrow d.«data»
  pub entry : d.entry < 2 ^ 32

-- ---- bytes read as numbers and written again

abbrev pub Octets : List ℕ → Type 0
Octets s = (i : ℕ) → get_or s i 0 < 256

-- ---- a record that is there

pub record Present (kind size : ℕ) (s : List ℕ) (go : List ℕ → List ℕ → Found) (m : Map) (g : Grid) : Type 0 where
  pub rest : List ℕ
  pub same : s ≡ kind ∷ rest
  pub long : size ≤ length rest
  pub next : go (take size rest) (drop size rest) ≡ Found.whole m g
