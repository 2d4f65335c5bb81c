-- Laws of a run of records, and of a run of cells.
--     domains_split, channels_split, marks_split   a run is its beginning and then what is left of it
--     channel_room          the record of a marked cell is within the run
-- Assumes nothing.
use Rattle.std.specs.Prelude.{ℕ, zero, suc, ◌+◌, ◌-◌, ◌≤◌, ◌<◌, ◌≡◌, true, ◌++◌, length}
use Rattle.std.proofs.Common.{add-zero, zero-add, suc-add, arith, length-append}
use Rattle.model.proofs.BasicsLaws.{by_bool}
use Rattle.model.specs.Map.{Grid}
use Rattle.model.specs.Refusals.{cell}
use Rattle.model.specs.Sheet.{domain_records, channel_records}
use Rattle.model.specs.GridLaws.{marks}
use Rattle.model.specs.declared.map.Map.{Map}

next_index : (i n : ℕ) → i + 1 + n ≡ i + suc n
next_index i n = omega arith

pub domains_split :
    (m : Map) (i n k : ℕ) → domain_records m i (n + k) ≡ domain_records m i n ++ domain_records m (i + n) k
unfolding domain_records
domains_split m i zero k = rw (zero-add, add-zero)
domains_split m i (suc n) k = rw (suc-add, ← next_index i n, ← domains_split m (i + 1) n k)

pub channels_split :
    (g : Grid) (p n k : ℕ) → channel_records g p (n + k) ≡ channel_records g p n ++ channel_records g (p + n) k
unfolding channel_records
channels_split g p zero k = rw (zero-add, add-zero)
channels_split g p (suc n) k =
    let rest = channels_split g (p + 1) n k in
    rw (suc-add, ← next_index p n) (by_bool (cell g p) (λ e. rw (e, rest)) (λ e. rw (e, rest)))

pub marks_split : (g : Grid) (p n k : ℕ) → marks g p (n + k) ≡ marks g p n + marks g (p + n) k
unfolding marks
marks_split g p zero k = simp (zero-add, add-zero)
marks_split g p (suc n) k =
    let rest = marks_split g (p + 1) n k in
    rw (suc-add, ← next_index p n) (by_bool (cell g p) (λ e. rw e (omega arith)) (λ e. rw e rest))

pub channel_room :
    (g : Grid) (p n : ℕ) → cell g p ≡ true → p < n → length (channel_records g 0 p) + 3 ≤ length (channel_records g 0 n)
unfolding channel_records
channel_room g p n e h =
    let left : n ≡ p + suc (n - (p + 1)) = omega arith in
    rw (left, channels_split g 0 p (suc (n - (p + 1))), zero-add, length-append, e) (omega arith)
