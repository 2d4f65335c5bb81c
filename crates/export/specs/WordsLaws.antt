-- Laws for code that takes blocks apart and lays them.
--     eight_of          eight things that were made one by one
--     eight_again       a list of eight, read place by place, is the list
--     eight_same        eight things that are the same one by one
--     eight_made        what `from_fn` makes, of a closure that changes nothing
--     eight_laid        eight parts, flattened and copied: one after the other
--     chunk             a word of a chunk is a word of the block that was cut
--     sets_past         words that are set past the end change nothing; sets_more: the first of them and then the rest
--     alike_stop        the last of n words differs; alike_on: it is the same, and the others decide
--     alike_pointwise   `==` of two blocks of n words
-- Assumes nothing.
use Rattle.std.specs.Prelude.{ℕ, zero, suc, ◌+◌, ◌-◌, ◌*◌, ◌<◌, ◌≤◌, ◌≡◌, refl, false, ◌&&◌, List, [], ◌∷◌, eqb, nat_eq, length, get_or, set, drop}
use Rattle.std.specs.List.{flat_map}
use Rattle.std.specs.Array.{IsFromFnResult}
use Rattle.std.specs.Fn.{Called}
use Rattle.std.specs.Simd.{first_chunks}
use Rattle.std.specs.Cmp.Lexicographic.{pointwise}
use Rattle.std.proofs.Common.{sym, ap, ◌∙◌, add-one, append_assoc, mul-suc, arith, drop-cons, eq-eqb, ne_eqb}
use Rattle.std.proofs.lemmas.List.{append-nil, get_or-drop, get_or-take}
use Rattle.std.proofs.lemmas.List.Edits.{sets}
use Rattle.std.proofs.Math.Seq.{set_out}
use denote.Param.Members.{Mut}
use Rattle.model.proofs.BasicsLaws.{and_swap}
use Rattle.model.proofs.LoopLaws.{back}
use Rattle.model.proofs.MadeLaws.{made}
use Rattle.export.specs.Words.{alike, eight, parts}

pub eight_of :
    {A : Type 0} (f : ℕ → A) {a b c d e g h i : A}
    → a ≡ f 0 → b ≡ f 1 → c ≡ f 2 → d ≡ f 3 → e ≡ f 4 → g ≡ f 5 → h ≡ f 6 → i ≡ f 7
    → a ∷ b ∷ c ∷ d ∷ e ∷ g ∷ h ∷ i ∷ [] ≡ eight f
eight_of f A B C D E G H I = rw (A, B, C, D, E, G, H, I)

pub eight_again : {A : Type 0} (xs : List A) (d : A) → length xs ≡ 8 → eight (λ i. get_or xs i d) ≡ xs
eight_again (a ∷ b ∷ c ∷ d ∷ e ∷ f ∷ g ∷ h ∷ []) z l = refl
eight_again [] z l = absurd (omega arith)
eight_again (a ∷ []) z l = absurd (omega arith)
eight_again (a ∷ b ∷ []) z l = absurd (omega arith)
eight_again (a ∷ b ∷ c ∷ []) z l = absurd (omega arith)
eight_again (a ∷ b ∷ c ∷ d ∷ []) z l = absurd (omega arith)
eight_again (a ∷ b ∷ c ∷ d ∷ e ∷ []) z l = absurd (omega arith)
eight_again (a ∷ b ∷ c ∷ d ∷ e ∷ f ∷ []) z l = absurd (omega arith)
eight_again (a ∷ b ∷ c ∷ d ∷ e ∷ f ∷ g ∷ []) z l = absurd (omega arith)
eight_again (a ∷ b ∷ c ∷ d ∷ e ∷ f ∷ g ∷ h ∷ i ∷ r) z l = absurd (omega arith)

pub eight_same : {A : Type 0} (f g : ℕ → A) → ((i : ℕ) → i < 8 → f i ≡ g i) → eight f ≡ eight g
eight_same f g e =
    rw (
      e 0 (omega arith),
      e 1 (omega arith),
      e 2 (omega arith),
      e 3 (omega arith),
      e 4 (omega arith),
      e 5 (omega arith),
      e 6 (omega arith),
      e 7 (omega arith),
    )

-- calls of a closure that no call changes: h is what each gives; d stands past the array's end
pub eight_made :
    {F B : Type 0} {g : Mut F (ℕ × Unit {0}) B} {f : F} (h : ℕ → B)
    → ((i : ℕ) (y : B) (q : F) → i < 8 → Called g f (i, tt) y q → (q ≡ f) × (y ≡ h i))
    → (d : B) {ys : List B} → IsFromFnResult g f ys 8 → ys ≡ eight h
eight_made h call d {ys = ys} r = sym (eight_again ys d r.long) ∙ eight_same _ _ (λ i l. made 8 h call r i d l)

pub chunk :
    (n k : ℕ) (xs : List ℕ) (i j : ℕ) → i < k → j < n
    → get_or (get_or (first_chunks n k xs) i []) j 0 ≡ get_or xs (n * i + j) 0
chunk n zero xs i j a b = absurd (omega arith)
chunk n (suc k) xs zero j a b = let e : n * 0 + j ≡ j = omega arith in rw (get_or-take n xs j 0 b, e)
chunk n (suc k) xs (suc i) j a b =
    let e : n + (n * i + j) ≡ n * suc i + j = omega (arith, mul-suc n i) in
    chunk n k (drop n xs) i j (omega arith) b ∙ get_or-drop n xs (n * i + j) 0 ∙ rw e

-- eight parts, flattened and copied into a block
pub eight_laid :
    (f : ℕ → List ℕ) {ys : List (List ℕ)} → ys ≡ eight f
    → {flat block : List ℕ} → flat ≡ flat_map (λ x. x) ys → block ≡ flat → block ≡ parts f
eight_laid f e v w = w ∙ v ∙ ap (flat_map (λ x. x)) e ∙ simp (append_assoc, append-nil)

-- words that are set where the block has ended
sets_past : (l : List ℕ) (i : ℕ) (vs : List ℕ) → length l ≤ i → sets l i vs ≡ l
sets_past l i [] h = refl
sets_past l i (a ∷ vs) h = rw (set_out l i a h) (sets_past l (suc i) vs (omega arith))

-- one word and then the words after it
sets_more :
    (l : List ℕ) (at : ℕ) (vs : List ℕ) (i : ℕ) → i < length vs
    → sets l at (drop i vs) ≡ sets (set l at (get_or vs i 0)) (at + 1) (drop (i + 1) vs)
sets_more l at vs i h = rw (add-one at, add-one i, drop-cons vs i 0 h)

-- the last of n words and then those before it
alike_turn :
    (xs ys : List ℕ) (n : ℕ) → 0 < n → alike xs ys n ≡ eqb (get_or xs (n - 1) 0) (get_or ys (n - 1) 0) && alike xs ys (n - 1)
unfolding alike
alike_turn xs ys zero h = absurd (omega arith)
alike_turn xs ys (suc n) h = rw (back n)

module _ (xs ys : List ℕ) (n : ℕ) (h : 0 < n) {x y : ℕ} (X : x ≡ get_or xs (n - 1) 0) (Y : y ≡ get_or ys (n - 1) 0) where
  pub alike_stop : (x ≡ y → ⊥) → alike xs ys n ≡ false
  alike_stop f = let e = rw (X, Y) at (ne_eqb x y f) in alike_turn xs ys n h ∙ rw e

  pub alike_on : x ≡ y → alike xs ys n ≡ alike xs ys (n - 1)
  alike_on f = let e = rw (X, Y) at (eq-eqb x y f) in alike_turn xs ys n h ∙ rw e

alike_cons : (x y : ℕ) (xs ys : List ℕ) (n : ℕ) → alike (x ∷ xs) (y ∷ ys) (suc n) ≡ eqb x y && alike xs ys n
unfolding alike
alike_cons x y xs ys zero = refl
alike_cons x y xs ys (suc n) =
    rw (alike_cons x y xs ys n) (and_swap (eqb (get_or xs n 0) (get_or ys n 0)) (eqb x y) (alike xs ys n))

pub alike_pointwise : (xs ys : List ℕ) (n : ℕ) → length xs ≡ n → length ys ≡ n → pointwise nat_eq xs ys ≡ alike xs ys n
unfolding alike
alike_pointwise [] [] zero p q = refl
alike_pointwise [] [] (suc n) p q = absurd (omega arith)
alike_pointwise [] (y ∷ ys) n p q = absurd (omega arith)
alike_pointwise (x ∷ xs) [] n p q = absurd (omega arith)
alike_pointwise (x ∷ xs) (y ∷ ys) zero p q = absurd (omega arith)
alike_pointwise (x ∷ xs) (y ∷ ys) (suc n) p q =
    rw (alike_pointwise xs ys n (omega arith) (omega arith), alike_cons x y xs ys n)
