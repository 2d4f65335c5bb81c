-- Each verdict, a sheet's reading and an event's reading are what their tests come to (Tests): laws for Refused.
--     map_rules, named_rules, lent_rules, fitting_rules, node_rules     each verdict
--     sheet_read_by, event_ruled                                        the readings
-- Assumes nothing.
use Rattle.std.specs.Prelude.{ℕ, zero, suc, ◌+◌, ◌≡◌, refl, Bool, true, false, not, List, [], ◌∷◌, ◌++◌, leb, eqb, length, take, drop, if◌then◌else◌, Ok, Err}
use Rattle.std.proofs.Common.{sym, ◌∙◌, arith, le-leb, eqb-true}
use Rattle.std.proofs.Math.Dec.{leb-zero}
use Rattle.model.specs.Basics.{number}
use Rattle.model.proofs.BasicsLaws.{by_bool}
use Rattle.model.specs.Map.{most, Grid, no_grid, nth}
use Rattle.model.specs.Refusals.{refusal_number, check, ◌▸◌, counted, unused_zero, sized, within, domain_verdict, domains_verdict, map_verdict, accepts}
use Rattle.model.specs.Sheet.{Found, judged, four_or_five, finish, channels_read, domains_read, sheet_read, one_record, kernel_read, region_of, place, mark, domain_of, with_domain}
use Rattle.model.specs.Events.{event_read}
use Rattle.model.specs.Calls.{named, lent_verdict, node_verdict}
use Rattle.model.specs.declared.map.Domain.{Domain}
use Rattle.model.specs.declared.map.Map.{Map}
use Rattle.model.specs.declared.state.State.{State}
use Rattle.model.specs.declared.refusal.Refusal.{Refusal}
use Rattle.model.specs.Answers.{Verdict}
use Rattle.promises.specs.Tests.{Test, test, present, Ruling, ruling, domain_tests, each_domain, map_tests, nine, fourteen, ten, node_tests, last_tests, channel_tests, record_tests, kernel_tests, sheet_tests, event_tests}
use Rattle.promises.specs.Ruled.{of_answer, Rules, fitting, Reads}

-- ---- tests in a row

append_passed : (xs ys : List Test) → ruling xs ≡ Ruling.accepted → ruling (xs ++ ys) ≡ ruling ys
append_passed [] ys e = refl
append_passed (x ∷ xs) ys e = by_bool x.passed (λ p. rw p (append_passed xs ys (rw p at e))) (λ p. let q = rw p at e in cc)

append_failed :
    (xs ys : List Test) (n at : ℕ) → ruling xs ≡ Ruling.refused n at → ruling (xs ++ ys) ≡ Ruling.refused n at
append_failed [] ys n at e = cc
append_failed (x ∷ xs) ys n at e = by_bool x.passed (λ p. rw p (append_failed xs ys n at (rw p at e))) (λ p. rw p (rw p at e))

then_rules : {at : ℕ} {v w : Verdict} {xs ys : List Test} → Rules at v xs → Rules at w ys → Rules at (v ▸ w) (xs ++ ys)
then_rules {v = Ok tt} {xs = xs} {ys = ys} e f = record { by = f.by ∙ sym (append_passed xs ys (sym e.by)) }
then_rules {at = at} {v = Err r} {xs = xs} {ys = ys} e f = record { by = sym (append_failed xs ys (refusal_number r) at (sym e.by)) }

check_rules : {at : ℕ} {b : Bool} (r : Refusal) → Rules at (check b r) (test (refusal_number r) at b ∷ [])
check_rules {b = true} r = record { by = refl }
check_rules {b = false} r = record { by = refl }

test_rules :
    {at : ℕ} {b : Bool} (r : Refusal) {w : Verdict} {ys : List Test} → Rules at w ys
    → Rules at (check b r ▸ w) (test (refusal_number r) at b ∷ ys)
test_rules r e = then_rules (check_rules r) e

-- ---- the map's tests, and those after them

domain_rules : (at : ℕ) (m : Map) (i : ℕ) (d : Domain) → Rules at (domain_verdict m i d) (domain_tests at m i d)
unfolding domain_verdict
domain_rules at m i d =
    test_rules Refusal.Bounds
    (test_rules Refusal.Bounds (test_rules Refusal.Entry (test_rules Refusal.Overlap (check_rules Refusal.Overlap))))

domains_rules : (m : Map) (i n : ℕ) → Rules 0 (domains_verdict m i n) (each_domain m i n)
unfolding domains_verdict
domains_rules m i zero = record { by = refl }
domains_rules m i (suc n) = then_rules (domain_rules 0 m i (nth m i)) (domains_rules m (i + 1) n)

abbrev front_of_map : Map → List Test
front_of_map m =
    test 2 0 (counted m.count)
    ∷ test 2 0 (unused_zero m most)
    ∷ test 3 0 (sized m.length)
    ∷ test 4 0 (within m.length m.kernel)
    ∷ each_domain m 0 m.count

front_rules : (m : Map) → Rules 0 (map_verdict m) (front_of_map m)
unfolding map_verdict
front_rules m =
    test_rules Refusal.Kind
    (test_rules Refusal.Kind (test_rules Refusal.Length (test_rules Refusal.Bounds (domains_rules m 0 m.count))))

pub map_rules : (m : Map) (g : Grid) → Rules 0 (accepts m g) (map_tests m g)
unfolding accepts
map_rules m g = then_rules (front_rules m) (check_rules Refusal.Channel)

pub named_rules : (m : Map) (g : Grid) (d : ℕ) → Rules 0 (named m g d) (map_tests m g ++ (fourteen m d ∷ []))
unfolding named
named_rules m g d = then_rules (map_rules m g) (check_rules Refusal.NoDomain)

pub lent_rules :
    (m : Map) (g : Grid) (memory : List ℕ) (d : ℕ)
    → Rules 0 (lent_verdict m g memory d) (map_tests m g ++ (nine m memory ∷ fourteen m d ∷ []))
unfolding lent_verdict
lent_rules m g memory d = then_rules (map_rules m g) (test_rules Refusal.Memory (check_rules Refusal.NoDomain))

pub fitting_rules : (m : Map) (g : Grid) (buffer : List ℕ) → Rules 0 (fitting m g buffer) (map_tests m g ++ (ten m g buffer ∷ []))
fitting_rules m g buffer = then_rules (map_rules m g) (check_rules Refusal.Buffer)

pub node_rules : (m : Map) (g : Grid) (s : State) (memory : List ℕ) → Rules 0 (node_verdict m g s memory) (node_tests m g s memory)
unfolding node_verdict
node_rules m g s memory = then_rules (map_rules m g) (test_rules Refusal.Memory (check_rules Refusal.Malformed))

-- ---- the reader's tests

judged_reads :
    {at : ℕ} {v : Verdict} {go : Found} {xs ys : List Test} → Rules at v xs → Reads go ys → Reads (judged at v go) (xs ++ ys)
judged_reads {v = Ok tt} {xs = xs} {ys = ys} e f = record { by = f.by ∙ sym (append_passed xs ys (sym e.by)) }
judged_reads {at = at} {v = Err r} {xs = xs} {ys = ys} e f =
    record { by = sym (append_failed xs ys (refusal_number r) at (sym e.by)) }

if_reads :
    {b : Bool} (r : Refusal) {at : ℕ} {go : Found} {ys : List Test} → Reads go ys
    → Reads (if b then go else Found.refused r at) (test (refusal_number r) at b ∷ ys)
if_reads {b = true} r e = record { by = e.by }
if_reads {b = false} r e = record { by = refl }

either_reads :
    (b : Bool) {x y : Found} {xs ys : List Test} → Reads x xs → Reads y ys → Reads (if b then x else y) (if b then xs else ys)
either_reads true e f = e
either_reads false e f = f

passing : {n at : ℕ} {go : Found} {ys : List Test} → Reads go ys → Reads go (test n at true ∷ ys)
passing e = record { by = e.by }

finish_reads :
    (at : ℕ) (m : Map) (g : Grid) (rest : List ℕ)
    → Reads (finish at m g rest) (test 8 (at + 1) (not (present rest)) ∷ [])
finish_reads at m g [] = record { by = refl }
finish_reads at m g (b ∷ rest) = record { by = refl }

last_reads :
    (at k : ℕ) (m : Map) (g : Grid) (rest : List ℕ) {four : Found} {more : List Test}
    → Reads four (test 1 at (leb 2 (length rest)) ∷ more)
    → Reads (four_or_five at k four (finish at m g rest)) (last_tests at (k ∷ rest) more)
last_reads at k m g rest e =
    by_bool (eqb k 4) (λ p. rw p (passing (passing e)))
    (λ p. by_bool (eqb k 5)
    (λ q. rw (p, q, leb-zero (length rest)) (passing (passing (passing (finish_reads at m g rest)))))
    (λ q. rw (p, q) (record { by = refl })))

channels_read_by :
    (at : ℕ) (m : Map) (p : ℕ) (g : Grid) (s : List ℕ) → Reads (channels_read at m p g s) (channel_tests at m p s)
unfolding channels_read
channels_read_by at m p g [] = record { by = refl }
channels_read_by at m p g (k ∷ []) = last_reads at k m g [] (record { by = refl })
channels_read_by at m p g (k ∷ f ∷ []) = last_reads at k m g (f ∷ []) (record { by = refl })
channels_read_by at m p g (k ∷ f ∷ t ∷ rest) =
    last_reads at k m g (f ∷ t ∷ rest)
    (rw (le-leb 2 (length (f ∷ t ∷ rest)) (omega arith))
    (passing (judged_reads (check_rules Refusal.Channel) (channels_read_by (at + 3) m (place f t + 1) (mark g f t) rest))))

records_read_by : (room at : ℕ) (m : Map) (s : List ℕ) → Reads (domains_read room at m s) (record_tests room at m s)
unfolding domains_read
records_read_by zero at m s = channels_read_by at m 0 no_grid s
records_read_by (suc room) at m [] = record { by = refl }
records_read_by (suc room) at m (k ∷ rest) =
    let d = domain_of (take 20 rest) in
    either_reads (eqb k 3)
    (passing (passing (if_reads Refusal.Short
    (judged_reads (domain_rules at m m.count d) (records_read_by room (at + 21) (with_domain m d) (drop 20 rest))))))
    (by_bool (eqb m.count 0) (λ e. rw e (record { by = refl })) (λ e. rw e (passing (passing (channels_read_by at m 0 no_grid (k ∷ rest))))))

kernel_read_by : (n : ℕ) (s : List ℕ) → Reads (one_record 5 2 8 s (λ b rest. kernel_read n (region_of b 0) rest)) (kernel_tests n s)
kernel_read_by n [] = record { by = refl }
kernel_read_by n (k ∷ rest) =
    passing (if_reads Refusal.Kind (if_reads Refusal.Short (judged_reads (check_rules Refusal.Bounds) (records_read_by most 14 _ _))))

pub sheet_read_by : (s : List ℕ) → Reads (sheet_read s) (sheet_tests s)
unfolding sheet_read
sheet_read_by [] = record { by = refl }
sheet_read_by (k ∷ rest) =
    passing
    (if_reads Refusal.Kind
    (if_reads Refusal.Short (judged_reads (check_rules Refusal.Length) (kernel_read_by (number (take 4 rest) 0) (drop 4 rest)))))

-- ---- an event's tests

pub event_ruled : (s : List ℕ) → of_answer 0 (event_read s) ≡ ruling (event_tests s)
unfolding event_read
event_ruled [] = refl
event_ruled (k ∷ s) =
    let one = le-leb 1 (length (k ∷ s)) (omega arith) in
    by_bool (eqb k 1) (λ e. rw (eqb-true k 1 e, one))
    (λ e. by_bool (eqb k 2) (λ f. rw (eqb-true k 2 f, one))
    (λ f. by_bool (eqb k 3) (λ q. by_bool (leb 6 (length (k ∷ s))) (λ l. rw (e, f, q, l)) (λ l. rw (e, f, q, l))) (λ q. rw (e, f, q))))
