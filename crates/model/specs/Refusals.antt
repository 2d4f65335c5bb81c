-- Document 01, "Refusal numbers".
-- Assumes nothing.
use Rattle.std.specs.Prelude.{ℕ, zero, suc, ◌+◌, ◌*◌, ◌/◌, ◌%◌, Bool, true, false, ◌&&◌, ◌||◌, not, leb, ltb, eqb, Ok, Err}
use Rattle.model.specs.Map.{most, inside, overlaps, nth, Grid, marked, is_domain}
use Rattle.model.specs.declared.map.Region.{Region}
use Rattle.model.specs.declared.map.Domain.{Domain}
use Rattle.model.specs.declared.map.Map.{Map}
use Rattle.model.specs.declared.refusal.Refusal.{Refusal}
use Rattle.model.specs.Answers.{Verdict}

-- the table's first column
abbrev pub refusal_number : Refusal → ℕ
refusal_number Refusal.Short = 1
refusal_number Refusal.Kind = 2
refusal_number Refusal.Length = 3
refusal_number Refusal.Bounds = 4
refusal_number Refusal.Entry = 5
refusal_number Refusal.Overlap = 6
refusal_number Refusal.Channel = 7
refusal_number Refusal.Trailing = 8
refusal_number Refusal.Memory = 9
refusal_number Refusal.Buffer = 10
refusal_number Refusal.EventKind = 11
refusal_number Refusal.EventShort = 12
refusal_number Refusal.Malformed = 13
refusal_number Refusal.NoDomain = 14

-- a verdict by the table's number; 0, which is none of them, where nothing is refused
abbrev pub verdict_number : Verdict → ℕ
verdict_number (Ok tt) = 0
verdict_number (Err r) = refusal_number r

-- one test and the refusal where it fails; one verdict and, where it accepts, the next
abbrev pub check : Bool → Refusal → Verdict
check true r = Ok tt
check false r = Err r

infixr 20 ◌▸◌
abbrev pub ◌▸◌ : Verdict → Verdict → Verdict
Ok tt ▸ w = w
Err r ▸ w = Err r

-- 2: "domain count not 1 to 8; an unused map entry not all zero"
abbrev pub counted : ℕ → Bool
counted n = leb 1 n && leb n most

abbrev pub zero_region : Region → Bool
zero_region r = eqb r.begin 0 && eqb r.end 0

unfoldable pub zero_domain : Domain → Bool
zero_domain d = zero_region d.code && zero_region d.«data» && eqb d.entry 0

-- of the first n entries, those past the count are all zero
unfoldable pub unused_zero : Map → ℕ → Bool
unused_zero m zero = true
unused_zero m (suc n) = let rest = unused_zero m n in (ltb n m.count || zero_domain (nth m n)) && rest

-- 3
abbrev pub sized : ℕ → Bool
sized n = leb 256 n && leb n 65536

-- 4
abbrev pub within : ℕ → Region → Bool
within n r = leb r.begin r.end && leb r.end n

-- 6: the region shares no address with the domain; nor with the kernel or one of the first i domains
abbrev pub free_of : Region → Domain → Bool
free_of r d = not (overlaps r d.code) && not (overlaps r d.«data»)

unfoldable pub clear : Map → Region → ℕ → Bool
clear m r zero = not (overlaps r m.kernel)
clear m r (suc i) = let rest = clear m r i in free_of r (nth m i) && rest

-- 4, 5 and 6 for a domain that stands after the first i
unfoldable pub domain_verdict : Map → ℕ → Domain → Verdict
domain_verdict m i d =
    check (within m.length d.code) Refusal.Bounds
    ▸ check (within m.length d.«data») Refusal.Bounds
    ▸ check (inside d.code d.entry) Refusal.Entry
    ▸ check (clear m d.code i) Refusal.Overlap
    ▸ check (clear m d.«data» i && not (overlaps d.«data» d.code)) Refusal.Overlap

-- for n domains in turn, from the one after the first i
unfoldable pub domains_verdict : Map → ℕ → ℕ → Verdict
domains_verdict m i zero = Ok tt
domains_verdict m i (suc n) = let rest = domains_verdict m (i + 1) n in domain_verdict m i (nth m i) ▸ rest

-- the grid's cells are counted row by row: cell p is row p / 8, column p % 8
abbrev pub cell : Grid → ℕ → Bool
cell g p = marked g (p / most) (p % most)

abbrev pub from : ℕ → ℕ
from p = p / most + 1

abbrev pub to : ℕ → ℕ
to p = p % most + 1

-- 7: "channel end not 1 to N, from equal to to"
abbrev pub is_channel : ℕ → ℕ → ℕ → Bool
is_channel count f t = is_domain count f && is_domain count t && not (eqb f t)

-- n cells from p on: each mark is a channel
unfoldable pub channels_good : ℕ → Grid → ℕ → ℕ → Bool
channels_good count g p zero = true
channels_good count g p (suc n) =
    let rest = channels_good count g (p + 1) n in (not (cell g p) || is_channel count (from p) (to p)) && rest

-- "the map as the writer would meet it (count and unused entries, 3, 4 for the kernel, then 4, 5, 6 for each domain in turn, then 7)"
unfoldable pub map_verdict : Map → Verdict
map_verdict m =
    check (counted m.count) Refusal.Kind
    ▸ check (unused_zero m most) Refusal.Kind
    ▸ check (sized m.length) Refusal.Length
    ▸ check (within m.length m.kernel) Refusal.Bounds
    ▸ domains_verdict m 0 m.count

unfoldable pub accepts : Map → Grid → Verdict
accepts m g = map_verdict m ▸ check (channels_good m.count g 0 (most * most)) Refusal.Channel
