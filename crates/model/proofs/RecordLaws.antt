-- Laws of Sheet: a record by itself.
--     Narrow, Small         numbers that four bytes hold, as an accepted map's are
--     region_back, domain_back     a region and a domain written and read back
--     length_spelt, kernel_spelt, domain_spelt   a record read and written again
--     body_present, body_known, record_known     what the reader does where a body is there, and what it tells
-- Assumes nothing.
use Rattle.std.specs.Prelude.{ℕ, suc, ◌+◌, ◌≤◌, ◌<◌, ◌≡◌, true, List, [], ◌∷◌, ◌++◌, leb, eqb, length, get_or, take, drop, Ok}
use Rattle.std.proofs.Common.{ap, ◌∙◌, add-one, arith, get_or-take, get_or-drop, drop-cons, leb-true, le-leb, eqb-true}
use Rattle.std.proofs.Math.Numerals.{add-two, add-three, add-four}
use Rattle.model.specs.Basics.{bytes, number}
use Rattle.model.proofs.BasicsLaws.{by_bool, and_left, and_right, number_bytes, bytes_number}
use Rattle.model.specs.Map.{Grid}
use Rattle.model.proofs.MapLaws.{inside_below}
use Rattle.model.specs.Refusals.{within, domain_verdict}
use Rattle.model.proofs.RefusalsLaws.{placed}
use Rattle.model.specs.Sheet.{Found, body, one_record, region_bytes, length_record, kernel_record, domain_record, region_of, domain_of}
use Rattle.model.proofs.ChannelLaws.{not_refused}
use Rattle.model.specs.declared.map.Region.{Region}
use Rattle.model.specs.declared.map.Domain.{Domain}
use Rattle.model.specs.declared.map.Map.{Map}
use Rattle.model.specs.declared.refusal.Refusal.{Refusal}
use Rattle.model.specs.RecordLaws.{Narrow, Small, Octets, Present}

-- ---- numbers that four bytes hold

pub within_narrow : (n : ℕ) (r : Region) → n ≤ 65536 → within n r ≡ true → Narrow r
within_narrow n r h e =
    let a = leb-true r.begin r.end (and_left _ (leb r.end n) e) in
    let b = leb-true r.end n (and_right (leb r.begin r.end) _ e) in
    omega arith

pub verdict_small : (m : Map) (i : ℕ) (d : Domain) → m.length ≤ 65536 → domain_verdict m i d ≡ Ok tt → Small d
verdict_small m i d h e =
    let p = placed m i d e in
    let n = within_narrow m.length d.code h p.code in
    record {
      code = n;
      «data» = within_narrow m.length d.«data» h p.«data»;
      entry = omega (arith, inside_below d.code d.entry p.entry, n.end);
    }

-- ---- a record written and read back

pub region_back : (r : Region) → Narrow r → region_of (region_bytes r) 0 ≡ r
region_back r n =
    λ i. record { begin = number_bytes r.begin n.begin i; end = number_bytes r.end n.end i }

pub domain_back :
    (d : Domain) → Small d → domain_of (region_bytes d.code ++ (region_bytes d.«data» ++ bytes d.entry)) ≡ d
domain_back d s =
    λ i. record {
      code = region_back d.code s.code i;
      «data» = region_back d.«data» s.«data» i;
      entry = number_bytes d.entry s.entry i;
    }

pub body_present :
    (at size : ℕ) (rest : List ℕ) (go : List ℕ → List ℕ → Found) → size ≤ length rest
    → body at size rest go ≡ go (take size rest) (drop size rest)
body_present at size rest go h = rw (le-leb size (length rest) h)

-- ---- bytes read as numbers and written again

pub octets_drop : (n : ℕ) (s : List ℕ) → Octets s → Octets (drop n s)
octets_drop n s o i = rw get_or-drop (o (n + i))

number_take : (n : ℕ) (l : List ℕ) (i : ℕ) → i + 3 < n → number (take n l) i ≡ number l i
number_take n l i h =
    rw (get_or-take n l i 0 (omega arith), get_or-take n l (i + 1) 0 (omega arith))
    (rw (get_or-take n l (i + 2) 0 (omega arith), get_or-take n l (i + 3) 0 (omega arith)))

region_take : (n : ℕ) (l : List ℕ) (i : ℕ) → i + 7 < n → region_of (take n l) i ≡ region_of l i
region_take n l i h =
    λ j. record { begin = number_take n l i (omega arith) j; end = number_take n l (i + 4) (omega arith) j }

-- the four bytes from i on are the number there, written
spelt : (l : List ℕ) (i : ℕ) → Octets l → i + 4 ≤ length l → bytes (number l i) ++ drop (i + 4) l ≡ drop i l
spelt l i o h =
    ap (λ (x : List ℕ). x ++ drop (i + 4) l)
    (bytes_number (get_or l i 0) (get_or l (i + 1) 0) (get_or l (i + 2) 0) (get_or l (i + 3) 0) (o i) (o (i + 1)) (o (i + 2)) (o (i + 3)))
    ∙ rw (
      add-one i,
      add-two i,
      add-three i,
      add-four i,
      drop-cons l i 0 (omega arith),
      drop-cons l (suc i) 0 (omega arith),
      drop-cons l (suc (suc i)) 0 (omega arith),
      drop-cons l (suc (suc (suc i))) 0 (omega arith),
    )

pub length_spelt :
    (l : List ℕ) → Octets l → 4 ≤ length l → length_record (number (take 4 l) 0) ++ drop 4 l ≡ 1 ∷ l
length_spelt l o h =
    ap (λ (n : ℕ). length_record n ++ drop 4 l) (number_take 4 l 0 (omega arith)) ∙ ap (λ (x : List ℕ). 1 ∷ x) (spelt l 0 o h)

region_spelt : (l : List ℕ) (i : ℕ) → Octets l → i + 8 ≤ length l → region_bytes (region_of l i) ++ drop (i + 8) l ≡ drop i l
region_spelt l i o h =
    let e : i + 8 ≡ i + 4 + 4 = omega arith in
    ap (λ (x : List ℕ). bytes (number l i) ++ x) (rw e (spelt l (i + 4) o (omega arith)))
    ∙ spelt l i o (omega arith)

pub kernel_spelt :
    (l : List ℕ) → Octets l → 8 ≤ length l → kernel_record (region_of (take 8 l) 0) ++ drop 8 l ≡ 2 ∷ l
kernel_spelt l o h =
    ap (λ (r : Region). kernel_record r ++ drop 8 l) (region_take 8 l 0 (omega arith))
    ∙ ap (λ (x : List ℕ). 2 ∷ x) (region_spelt l 0 o h)

domain_take : (l : List ℕ) → domain_of (take 20 l) ≡ domain_of l
domain_take l =
    λ j. record {
      code = region_take 20 l 0 (omega arith) j;
      «data» = region_take 20 l 8 (omega arith) j;
      entry = number_take 20 l 16 (omega arith) j;
    }

pub domain_spelt : (l : List ℕ) → Octets l → 20 ≤ length l → domain_record (domain_of (take 20 l)) ++ drop 20 l ≡ 3 ∷ l
domain_spelt l o h =
    ap (λ (d : Domain). domain_record d ++ drop 20 l) (domain_take l)
    ∙ ap (λ (x : List ℕ). 3 ∷ (region_bytes (region_of l 0) ++ (region_bytes (region_of l 8) ++ x))) (spelt l 16 o (omega arith))
    ∙ ap (λ (x : List ℕ). 3 ∷ (region_bytes (region_of l 0) ++ x)) (region_spelt l 8 o (omega arith))
    ∙ ap (λ (x : List ℕ). 3 ∷ x) (region_spelt l 0 o (omega arith))

-- ---- a record that is there

pub body_known :
    (at size : ℕ) (rest : List ℕ) (go : List ℕ → List ℕ → Found) (m : Map) (g : Grid) → body at size rest go ≡ Found.whole m g
    → (size ≤ length rest) × (go (take size rest) (drop size rest) ≡ Found.whole m g)
body_known at size rest go m g e =
    by_bool (leb size (length rest)) (λ t. (leb-true size (length rest) t, rw t at e))
    (λ t. not_refused Refusal.Short at m g (rw t at e))

pub record_known :
    (at kind size : ℕ) (s : List ℕ) (go : List ℕ → List ℕ → Found) (m : Map) (g : Grid)
    → one_record at kind size s go ≡ Found.whole m g → Present kind size s go m g
record_known at kind size [] go m g e = not_refused Refusal.Short at m g e
record_known at kind size (k ∷ l) go m g e =
    by_bool (eqb k kind)
    (λ t. let b = body_known at size l go m g (rw t at e) in
    record { rest = l; same = ap (λ (x : ℕ). x ∷ l) (eqb-true k kind t); long = b.0; next = b.1 })
    (λ t. not_refused Refusal.Kind at m g (rw t at e))
