-- Laws of Laid.
--     laid_none, laid_byte  nothing and one byte, laid; laid_copy: a copy over a part of the buffer
--     laid_then             one thing and then, past it, another
--     laid_front            from the front, what is laid comes first
-- Assumes nothing.
use Rattle.std.specs.Prelude.{ℕ, ◌+◌, ◌-◌, ◌≤◌, ◌<◌, ◌≡◌, refl, List, [], ◌∷◌, ◌++◌, leb, length, set, take, drop}
use Rattle.std.proofs.Common.{sym, ap, ◌∙◌, append_assoc, append-nil, add_assoc, add-zero, zero-add, add-one, arith, length-append, take-append-drop, drop_of_length-le, length-take-le, take_all, take_at, drop_at, drop-drop, leb-true, leb-false}
use Rattle.std.proofs.lemmas.List.{set_split}
use borrow.Rule.Slice.PartMut.{put_mid}
use Rattle.model.proofs.BasicsLaws.{by_bool}
use Rattle.sheet.specs.Laid.{laid, Laid}

pub laid_none : (at : ℕ) (b : List ℕ) → Laid at [] b at b
unfolding laid
laid_none at b = record { past = sym (add-zero at); same = rw (add-zero, take-append-drop) }

pub laid_byte : (at x : ℕ) (b : List ℕ) → at < length b → Laid at (x ∷ []) b (at + 1) (set b at x)
unfolding laid
laid_byte at x b h = record { past = refl; same = rw (add-one, set_split b at x h) }

-- a copy over a part of the buffer is laid there
pub laid_copy : (at : ℕ) (xs b : List ℕ) {ys : List ℕ} → ys ≡ xs → Laid at xs b (at + length xs) (put_mid at (at + length xs - at) b ys)
unfolding laid
laid_copy at xs b e =
    let k : at + length xs - at ≡ length xs = omega arith in
    record { past = refl; same = rw (e, k, drop-drop (length xs) at b) }

-- what is laid at the end of p leaves p as it is
laid_past : (n : ℕ) (p r ys : List ℕ) → length p ≡ n → laid n ys (p ++ r) ≡ p ++ (ys ++ drop (length ys) r)
unfolding laid
laid_past n p r ys e = rw (take_at p r n e, ← drop-drop (length ys) n (p ++ r), drop_at p r n e)

-- what is laid where the buffer has ended comes after it
laid_beyond : (at : ℕ) (xs b : List ℕ) → length b ≤ at → laid at xs b ≡ b ++ xs
unfolding laid
laid_beyond at xs b h = rw (take_all at b h, drop_of_length-le b {i = at + length xs} (omega arith), append-nil)

laid_twice : (at : ℕ) (xs ys b : List ℕ) → laid (at + length xs) ys (laid at xs b) ≡ laid at (xs ++ ys) b
unfolding laid
laid_twice at xs ys b =
    let n = at + length xs in
    by_bool (leb at (length b))
    (λ t.
    let l : length (take at b ++ xs) ≡ n = simp (length-append, length-take-le at b (leb-true at (length b) t)) in
    ap (laid n ys) (sym (append_assoc (take at b) xs (drop n b))) ∙ laid_past n (take at b ++ xs) (drop n b) ys l
    ∙ simp (append_assoc, drop-drop, length-append, add_assoc))
    (λ t.
    let h : length b ≤ at = omega (arith, leb-false at (length b) t) in
    let l : length (b ++ xs) ≤ n = omega (arith, length-append b xs) in
    ap (laid n ys) (laid_beyond at xs b h) ∙ laid_beyond n ys (b ++ xs) l ∙ append_assoc b xs ys
    ∙ sym (laid_beyond at (xs ++ ys) b h))

pub laid_then : {at n k : ℕ} {xs ys b c d : List ℕ} → Laid at xs b n c → Laid n ys c k d → Laid at (xs ++ ys) b k d
laid_then {at} {n} {k} {xs} {ys} {b} f g =
    record {
      past = omega (arith, length-append xs ys);
      same = g.same ∙ rw (f.past, f.same) (laid_twice at xs ys b);
    }

pub laid_front : (xs b : List ℕ) → laid 0 xs b ≡ xs ++ drop (length xs) b
unfolding laid
laid_front xs b = rw zero-add
