-- What the code walks, beside the definitions' recursions.
-- Assumes nothing.
use Rattle.std.specs.Prelude.{ℕ, zero, suc, ◌≡◌, refl, Bool, true, false, ◌&&◌, ◌||◌, not, length, take, drop, ltb}
use Rattle.std.specs.List.{list_all}
use Rattle.std.proofs.Common.{sym, ◌∙◌, ap}
use borrow.Author.Tests.{le-ltb, lt-ltb}
use Rattle.model.proofs.BasicsLaws.{by_bool}
use Rattle.model.proofs.WalkLaws.{each_place, walked, walked_front}
use Rattle.model.specs.Map.{most, absent, filled, overlaps, nth}
use Rattle.model.specs.Refusals.{zero_domain, unused_zero, free_of, clear}
use Rattle.model.specs.declared.map.Region.{Region}
use Rattle.model.specs.declared.map.Map.{Map}

-- ---- the entries of a map, front to back

unused_places : (m : Map) (n : ℕ) → unused_zero m n ≡ each_place (λ i. ltb i m.count || zero_domain (nth m i)) n
unfolding unused_zero each_place
unused_places m zero = refl
unused_places m (suc n) = rw (unused_places m n)

pub unused_walk : (m : Map) → length m.domains ≡ most → list_all zero_domain (drop m.count m.domains) ≡ unused_zero m most
unused_walk m h =
    walked zero_domain absent m.count m.domains (λ i. ltb i m.count || zero_domain (nth m i))
    (λ i l. rw (lt-ltb i m.count l))
    (λ i l. rw (le-ltb i m.count l))
    ∙ ap (each_place (λ i. ltb i m.count || zero_domain (nth m i))) h ∙ sym (unused_places m most)

and_assoc : (a b c : Bool) → (a && b) && c ≡ a && (b && c)
and_assoc true b c = refl
and_assoc false b c = refl

clear_places : (m : Map) (r : Region) (n : ℕ) → clear m r n ≡ each_place (λ i. free_of r (nth m i)) n && not (overlaps r m.kernel)
unfolding clear each_place
clear_places m r zero = refl
clear_places m r (suc n) =
    rw (clear_places m r n) (sym (and_assoc (free_of r (nth m n)) (each_place (λ i. free_of r (nth m i)) n) (not (overlaps r m.kernel))))

-- what is nowhere shares no address with anything
free_of_absent : (r : Region) → free_of r absent ≡ true
unfolding overlaps
free_of_absent r = by_bool (filled r) (λ e. rw e) (λ e. rw e)

pub clear_walk :
    (m : Map) (r : Region) (n : ℕ) → list_all (free_of r) (take n m.domains) && not (overlaps r m.kernel) ≡ clear m r n
clear_walk m r n =
    ap (λ b. b && not (overlaps r m.kernel))
    (walked_front (free_of r) absent (free_of_absent r) n m.domains (λ i. free_of r (nth m i)) (λ i l. refl))
    ∙ sym (clear_places m r n)
