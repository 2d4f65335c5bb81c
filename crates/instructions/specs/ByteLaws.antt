-- Bytes read, and set, one after the other.
--     peek_drop      n bytes that are those of the rest from a on
--     sets_more      one byte more is set
-- Assumes nothing.
use Rattle.std.specs.Prelude.{◌≡◌, ℕ, zero, suc, ◌+◌, ◌<◌, List, [], ◌∷◌, length, take, drop, get_or, set, refl}
use Rattle.std.proofs.Common.{ap, ◌∙◌, arith, add-zero}
use Rattle.std.proofs.lemmas.List.{get_or-drop}
use Rattle.std.proofs.lemmas.List.Edits.{sets}
use Rattle.model.specs.Instructions.{peek}

peek_each :
    (memory bs : List ℕ) (a n : ℕ) → length bs ≡ n → ((k : ℕ) → k < n → get_or bs k 0 ≡ get_or memory (a + k) 0)
    → bs ≡ peek memory a n
unfolding peek
peek_each memory [] a zero e h = refl
peek_each memory [] a (suc n) e h = absurd (omega arith)
peek_each memory (b ∷ bs) a zero e h = absurd (omega arith)
peek_each memory (b ∷ bs) a (suc n) e h =
    let first : b ≡ get_or memory a 0 = rw add-zero at (h 0 (omega arith)) in
    rw first
    (ap (λ l. get_or memory a 0 ∷ l)
    (peek_each memory bs (a + 1) n (omega arith)
    (λ k l. let on : a + suc k ≡ a + 1 + k = omega arith in rw on at (h (suc k) (omega arith)))))

pub peek_drop :
    (memory bs : List ℕ) (a n : ℕ) → length bs ≡ n → ((k : ℕ) → k < n → get_or bs k 0 ≡ get_or (drop a memory) k 0)
    → bs ≡ peek memory a n
peek_drop memory bs a n e h = peek_each memory bs a n e (λ k l. h k l ∙ get_or-drop a memory k 0)

pub sets_more :
    (bs memory : List ℕ) (a i : ℕ) → i < length bs
    → sets memory a (take (i + 1) bs) ≡ set (sets memory a (take i bs)) (a + i) (get_or bs i 0)
sets_more [] memory a i l = absurd (omega arith)
sets_more (b ∷ bs) memory a zero l = rw add-zero
sets_more (b ∷ bs) memory a (suc i) l =
    let on : suc a + i ≡ a + suc i = omega arith in
    let more : suc i + 1 ≡ suc (i + 1) = omega arith in
    rw more (rw on at (sets_more bs (set memory a b) (suc a) i (omega arith)))
