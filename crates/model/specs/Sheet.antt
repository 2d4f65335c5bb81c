-- Document 01, "The sheet".
-- Assumes nothing.
use Rattle.std.specs.Prelude.{ℕ, zero, suc, ◌+◌, ◌-◌, ◌*◌, Bool, true, ◌&&◌, List, [], ◌∷◌, ◌++◌, leb, eqb, length, get_or, set, take, drop, if◌then◌else◌, Ok, Err}
use Rattle.model.specs.Basics.{bytes, number}
use Rattle.model.specs.Map.{most, nth, no_map, Grid, no_grid}
use Rattle.model.specs.Refusals.{check, sized, within, domain_verdict, cell, from, to, is_channel}
use Rattle.model.specs.declared.map.Region.{Region}
use Rattle.model.specs.declared.map.Domain.{Domain}
use Rattle.model.specs.declared.map.Map.{Map}
use Rattle.model.specs.declared.refusal.Refusal.{Refusal}
use Rattle.model.specs.Answers.{Verdict}

-- ---- writing: a record's kind byte and its body, in the table's order

abbrev pub length_record : ℕ → List ℕ
length_record n = 1 ∷ bytes n

abbrev pub region_bytes : Region → List ℕ
region_bytes r = bytes r.begin ++ bytes r.end

abbrev pub kernel_record : Region → List ℕ
kernel_record r = 2 ∷ region_bytes r

abbrev pub domain_record : Domain → List ℕ
domain_record d = 3 ∷ (region_bytes d.code ++ (region_bytes d.«data» ++ bytes d.entry))

-- n domains, from the one after the first i
unfoldable pub domain_records : Map → ℕ → ℕ → List ℕ
domain_records m i zero = []
domain_records m i (suc n) = domain_record (nth m i) ++ domain_records m (i + 1) n

-- "any number of 4 in rising order of (from, to)": n cells of the grid, from the p-th on
unfoldable pub channel_records : Grid → ℕ → ℕ → List ℕ
channel_records g p zero = []
channel_records g p (suc n) =
    let rest = channel_records g (p + 1) n in if cell g p then 4 ∷ from p ∷ to p ∷ rest else rest

unfoldable pub sheet_bytes : Map → Grid → List ℕ
sheet_bytes m g =
    length_record m.length
    ++ (kernel_record m.kernel ++ (domain_records m 0 m.count ++ (channel_records g 0 (most * most) ++ (5 ∷ []))))

-- ---- reading, front to back. `at` is the offset of the record's kind byte, m the map as far as it is read

pub data Found : Type 0 where
  whole : Map → Grid → Found
  refused : Refusal → ℕ → Found

-- "body present (1)"
abbrev pub body : ℕ → ℕ → List ℕ → (List ℕ → List ℕ → Found) → Found
body at size rest go = if leb size (length rest) then go (take size rest) (drop size rest) else refused Refusal.Short at

-- "then the values in number order"
abbrev pub judged : ℕ → Verdict → Found → Found
judged at (Ok tt) go = go
judged at (Err r) go = refused r at

-- one record of one kind: "kind byte present (1), kind allowed (2), body present (1)"
abbrev pub one_record : ℕ → ℕ → ℕ → List ℕ → (List ℕ → List ℕ → Found) → Found
one_record at kind size [] go = refused Refusal.Short at
one_record at kind size (k ∷ rest) go = if eqb k kind then body at size rest go else refused Refusal.Kind at

-- "one 5, nothing after"
abbrev pub finish : ℕ → Map → Grid → List ℕ → Found
finish at m g [] = whole m g
finish at m g (b ∷ rest) = refused Refusal.Trailing (at + 1)

abbrev pub four_or_five : ℕ → ℕ → Found → Found → Found
four_or_five at k four five = if eqb k 4 then four else (if eqb k 5 then five else refused Refusal.Kind at)

-- 7: "channel end not 1 to N, from equal to to, or pair not above the one before": cells below p are passed
abbrev pub place : ℕ → ℕ → ℕ
place f t = (f - 1) * most + (t - 1)

abbrev pub rising : ℕ → ℕ → ℕ → ℕ → Bool
rising count p f t = is_channel count f t && leb p (place f t)

abbrev pub mark : Grid → ℕ → ℕ → Grid
mark g f t = set g (f - 1) (set (get_or g (f - 1) []) (t - 1) true)

unfoldable pub channels_read : ℕ → Map → ℕ → Grid → List ℕ → Found
channels_read at m p g [] = refused Refusal.Short at
channels_read at m p g (k ∷ []) = four_or_five at k (refused Refusal.Short at) (finish at m g [])
channels_read at m p g (k ∷ f ∷ []) = four_or_five at k (refused Refusal.Short at) (finish at m g (f ∷ []))
channels_read at m p g (k ∷ f ∷ t ∷ rest) =
    let next = channels_read (at + 3) m (place f t + 1) (mark g f t) rest in
    four_or_five at k (judged at (check (rising m.count p f t) Refusal.Channel) next) (finish at m g (f ∷ t ∷ rest))

abbrev pub region_of : List ℕ → ℕ → Region
region_of b i = record { begin = number b i; end = number b (i + 4) }

abbrev pub domain_of : List ℕ → Domain
domain_of b = record { code = region_of b 0; «data» = region_of b 8; entry = number b 16 }

abbrev pub with_domain : Map → Domain → Map
with_domain m d =
    record { length = m.length; kernel = m.kernel; count = m.count + 1; domains = set m.domains m.count d }

-- "one to eight 3": room is how many more may come
unfoldable pub domains_read : ℕ → ℕ → Map → List ℕ → Found
domains_read zero at m rest = channels_read at m 0 no_grid rest
domains_read (suc room) at m [] = refused Refusal.Short at
domains_read (suc room) at m (k ∷ rest) =
    let others = if eqb m.count 0 then refused Refusal.Kind at else channels_read at m 0 no_grid (k ∷ rest) in
    let this = body at 20 rest (λ b after. let d = domain_of b in
    judged at (domain_verdict m m.count d) (domains_read room (at + 21) (with_domain m d) after)) in
    if eqb k 3 then this else others

abbrev pub beginning_map : ℕ → Region → Map
beginning_map n r = record { length = n; kernel = r; count = 0; domains = no_map.domains }

-- after the kernel's numbers, after the length, and from the front
abbrev pub kernel_read : ℕ → Region → List ℕ → Found
kernel_read n r rest = judged 5 (check (within n r) Refusal.Bounds) (domains_read most 14 (beginning_map n r) rest)

abbrev pub length_read : ℕ → List ℕ → Found
length_read n rest =
    judged 0 (check (sized n) Refusal.Length) (one_record 5 2 8 rest (λ b after. kernel_read n (region_of b 0) after))

unfoldable pub sheet_read : List ℕ → Found
sheet_read s = one_record 0 1 4 s (λ b rest. length_read (number b 0) rest)
