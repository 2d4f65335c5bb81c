-- Document 01, "Refusal numbers": what each call tests, as a list in the paper's order. A test has its number, the offset that is reported with it
-- (0 where a call reports none), and whether it is passed.
--     tests             the tests of each call
--     ruling            what they come to: accepted, or the refusal of the first that is not passed; `all_passed` and `first_failed` say so
-- Assumes nothing.
use Rattle.std.specs.Prelude.{ℕ, zero, suc, ◌+◌, ◌*◌, ◌≡◌, refl, ◌⊎◌, Bool, true, false, ◌&&◌, ◌||◌, not, List, [], ◌∷◌, ◌++◌, leb, eqb, length, take, drop, get_or, if◌then◌else◌}
use Rattle.std.proofs.Common.{ap, inl, inr}
use Rattle.model.specs.Basics.{number as number_at}
use Rattle.model.proofs.BasicsLaws.{by_bool}
use Rattle.model.specs.Map.{most, inside, overlaps, nth, Grid, is_domain}
use Rattle.model.specs.Refusals.{counted, unused_zero, sized, within, clear, channels_good}
use Rattle.model.specs.Sheet.{sheet_bytes, place, rising, region_of, domain_of, with_domain, beginning_map}
use Rattle.model.specs.States.{well_formed}
use Rattle.model.specs.declared.map.Domain.{Domain}
use Rattle.model.specs.declared.map.Map.{Map}
use Rattle.model.specs.declared.state.State.{State}
use Rattle.promises.specs.Public.{Call}

pub record Test : Type 0 where
  pub number : ℕ
  pub at : ℕ
  pub passed : Bool

abbrev pub test : ℕ → ℕ → Bool → Test
test n at b = record { number = n; at = at; passed = b }

pub data Ruling : Type 0 where
  accepted : Ruling
  refused : ℕ → ℕ → Ruling

abbrev pub ruling : List Test → Ruling
ruling [] = Ruling.accepted
ruling (t ∷ rest) = if t.passed then ruling rest else Ruling.refused t.number t.at

-- ---- "the map as the writer would meet it (count and unused entries, 3, 4 for the kernel, then 4, 5, 6 for each domain in turn, then 7)"

abbrev pub domain_tests : ℕ → Map → ℕ → Domain → List Test
domain_tests at m i d =
    test 4 at (within m.length d.code)
    ∷ test 4 at (within m.length d.«data»)
    ∷ test 5 at (inside d.code d.entry)
    ∷ test 6 at (clear m d.code i)
    ∷ test 6 at (clear m d.«data» i && not (overlaps d.«data» d.code))
    ∷ []

abbrev pub each_domain : Map → ℕ → ℕ → List Test
each_domain m i zero = []
each_domain m i (suc n) = domain_tests 0 m i (nth m i) ++ each_domain m (i + 1) n

abbrev pub map_tests : Map → Grid → List Test
map_tests m g =
    test 2 0 (counted m.count)
    ∷ test 2 0 (unused_zero m most)
    ∷ test 3 0 (sized m.length)
    ∷ test 4 0 (within m.length m.kernel)
    ∷ (each_domain m 0 m.count ++ (test 7 0 (channels_good m.count g 0 (most * most)) ∷ []))

-- ---- "then 9, 13, 14, 10, as far as each applies"

abbrev pub nine : Map → List ℕ → Test
nine m memory = test 9 0 (eqb (length memory) m.length)

abbrev pub thirteen : Map → State → Test
thirteen m s = test 13 0 (well_formed m.count s)

abbrev pub fourteen : Map → ℕ → Test
fourteen m d = test 14 0 (is_domain m.count d)

abbrev pub ten : Map → Grid → List ℕ → Test
ten m g buffer = test 10 0 (leb (length (sheet_bytes m g)) (length buffer))

abbrev pub node_tests : Map → Grid → State → List ℕ → List Test
node_tests m g s memory = map_tests m g ++ (nine m memory ∷ thirteen m s ∷ [])

-- ---- the reader: "kind byte present (1), kind allowed (2), body present (1), then the values in number order". s is what is left at the record

abbrev pub present : List ℕ → Bool
present [] = false
present (k ∷ rest) = true

abbrev pub front_tests : ℕ → Bool → ℕ → List ℕ → List Test
front_tests at allowed size s =
    test 1 at (present s) ∷ test 2 at allowed ∷ test 1 at (leb size (length (drop 1 s))) ∷ []

-- a record of kind 5, "nothing after", or of kind 4, of which `more` is tested once its body is there
abbrev pub last_tests : ℕ → List ℕ → List Test → List Test
last_tests at s more =
    let k = get_or s 0 0 in
    let five = test 8 (at + 1) (not (present (drop 1 s))) ∷ [] in
    front_tests at (eqb k 4 || eqb k 5) (if eqb k 4 then 2 else 0) s ++ (if eqb k 4 then more else five)

-- the channels, those below cell p being passed, and the end
abbrev pub channel_tests : ℕ → Map → ℕ → List ℕ → List Test
channel_tests at m p [] = last_tests at [] []
channel_tests at m p (k ∷ []) = last_tests at (k ∷ []) []
channel_tests at m p (k ∷ f ∷ []) = last_tests at (k ∷ f ∷ []) []
channel_tests at m p (k ∷ f ∷ t ∷ rest) =
    last_tests at (k ∷ f ∷ t ∷ rest)
    (test 7 at (rising m.count p f t) ∷ channel_tests (at + 3) m (place f t + 1) rest)

-- the domains, of which `room` more may come and one at least has to, and what follows them
abbrev pub record_tests : ℕ → ℕ → Map → List ℕ → List Test
record_tests zero at m s = channel_tests at m 0 s
record_tests (suc room) at m s =
    let d = domain_of (take 20 (drop 1 s)) in
    let three = domain_tests at m m.count d ++ record_tests room (at + 21) (with_domain m d) (drop 20 (drop 1 s)) in
    if eqb (get_or s 0 0) 3
    then front_tests at true 20 s ++ three
    else test 1 at (present s) ∷ test 2 at (not (eqb m.count 0)) ∷ channel_tests at m 0 s

-- the kernel's record, after the length n
abbrev pub kernel_tests : ℕ → List ℕ → List Test
kernel_tests n s =
    let r = region_of (take 8 (drop 1 s)) 0 in
    front_tests 5 (eqb (get_or s 0 0) 2) 8 s
    ++ (test 4 5 (within n r) ∷ record_tests most 14 (beginning_map n r) (drop 8 (drop 1 s)))

-- the whole, from the length's record on
abbrev pub sheet_tests : List ℕ → List Test
sheet_tests s =
    let n = number_at (take 4 (drop 1 s)) 0 in
    front_tests 0 (eqb (get_or s 0 0) 1) 4 s ++ (test 3 0 (sized n) ∷ kernel_tests n (drop 4 (drop 1 s)))

-- ---- an event's record: 12, 11, 12

abbrev pub event_tests : List ℕ → List Test
event_tests s =
    let k = get_or s 0 0 in
    test 12 0 (present s)
    ∷ test 11 0 (eqb k 1 || (eqb k 2 || eqb k 3))
    ∷ test 12 0 (leb (if eqb k 3 then 6 else 1) (length s))
    ∷ []

abbrev pub tests : Call → List Test
tests (Call.accepting m g) = map_tests m g
tests (Call.asking m g d k a) = map_tests m g ++ (fourteen m d ∷ [])
tests (Call.viewing m g memory d) = map_tests m g ++ (nine m memory ∷ fourteen m d ∷ [])
tests (Call.reading s) = sheet_tests s
tests (Call.writing m g buffer) = map_tests m g ++ (ten m g buffer ∷ [])
tests (Call.starting m g) = map_tests m g
tests (Call.happening m g s memory e) = node_tests m g s memory
tests (Call.event_reading s) = event_tests s
tests (Call.playing m g s memory trace) = node_tests m g s memory
tests (Call.batching m g s memory limit) = node_tests m g s memory

-- ---- what a ruling says of the tests: accepted exactly if all are passed, and otherwise the refusal of one that is not, all before it being passed

abbrev pub Passed : List Test → Type 0
Passed [] = Unit {0}
Passed (t ∷ rest) = (t.passed ≡ true) × Passed rest

pub all_passed : (ts : List Test) → Passed ts → ruling ts ≡ Ruling.accepted
all_passed [] h = refl
all_passed (t ∷ ts) h = rw h.0 (all_passed ts h.1)

pub first_failed :
    (before : List Test) (t : Test) (after : List Test) → Passed before → t.passed ≡ false
    → ruling (before ++ (t ∷ after)) ≡ Ruling.refused t.number t.at
first_failed [] t after h e = rw e
first_failed (b ∷ before) t after h e = rw h.0 (first_failed before t after h.1 e)

pub record First (ts : List Test) : Type 0 where
  pub before : List Test
  pub this : Test
  pub after : List Test
  pub whole : ts ≡ before ++ (this ∷ after)
  pub passed : Passed before
  pub failed : this.passed ≡ false

sooner : (t : Test) (ts : List Test) → t.passed ≡ true → First ts → First (t ∷ ts)
sooner t ts e f =
    record {
      before = t ∷ f.before;
      this = f.this;
      after = f.after;
      whole = ap (λ rest. t ∷ rest) f.whole;
      passed = (e, f.passed);
      failed = f.failed;
    }

with_first : (t : Test) (ts : List Test) → t.passed ≡ true → Passed ts ⊎ First ts → Passed (t ∷ ts) ⊎ First (t ∷ ts)
with_first t ts e (inl p) = inl (e, p)
with_first t ts e (inr f) = inr (sooner t ts e f)

pub passed_or_first : (ts : List Test) → Passed ts ⊎ First ts
passed_or_first [] = inl tt
passed_or_first (t ∷ ts) =
    by_bool t.passed (λ e. with_first t ts e (passed_or_first ts))
    (λ e. inr (record { before = []; this = t; after = ts; whole = refl; passed = tt; failed = e }))
