-- Laws of Puts.
--     put_room, put_past        one byte, where there is room and where there is none
--     puts_past                 a text where there is no room
--     puts_append, puts_then, puts_three, puts_four    a text in parts
--     puts_next                 one byte more of a text
--     puts_after                behind a front: as far as the buffer goes, and its rest as it was
--     puts_laid                 .. from the buffer's front
-- Assumes nothing.
use Rattle.std.specs.Prelude.{ℕ, ◌+◌, ◌≤◌, ◌<◌, min, ◌≡◌, refl, List, [], ◌∷◌, ◌++◌, length, get_or, set, take, drop}
use Rattle.std.proofs.Common.{sym, ap, ◌∙◌, append-nil, arith, zero-add, length-append, take-suc, lt-ltb, le-ltb}
use Rattle.std.proofs.Math.Numerals.{suc-eq-add-one}
use Rattle.std.proofs.lemmas.List.{set_at}
use Rattle.std.proofs.Math.Seq.{drop-nil, append_snoc}
use Rattle.model.specs.Calls.{left}
use Rattle.model.specs.Program.{laid}
use Rattle.lines.specs.Puts.{Place, put, puts}

module _ (at b : ℕ) (buffer : List ℕ) where
  pub put_room : at < length buffer → left (at + 1) (set buffer at b) ≡ puts (left at buffer) (b ∷ [])
  unfolding puts put
  put_room h = rw (lt-ltb at (length buffer) h)

  pub put_past : length buffer ≤ at → left at buffer ≡ puts (left at buffer) (b ∷ [])
  unfolding puts put
  put_past h = rw (le-ltb at (length buffer) h)

pub puts_past : (at : ℕ) (text buffer : List ℕ) → length buffer ≤ at → left at buffer ≡ puts (left at buffer) text
unfolding puts
puts_past at [] buffer h = refl
puts_past at (b ∷ text) buffer h = puts_past at text buffer h ∙ ap (λ x. puts x text) (put_past at b buffer h)

pub puts_append : (x : Place) (xs ys : List ℕ) → puts x (xs ++ ys) ≡ puts (puts x xs) ys
unfolding puts
puts_append x [] ys = refl
puts_append x (b ∷ xs) ys = puts_append (put x b) xs ys

pub puts_then : (x : Place) (xs ys : List ℕ) {y z : Place} → y ≡ puts x xs → z ≡ puts y ys → z ≡ puts x (xs ++ ys)
puts_then x xs ys e f = f ∙ ap (λ p. puts p ys) e ∙ sym (puts_append x xs ys)

-- .. in three, in four
module _ (x : Place) (ws xs ys : List ℕ) {w y z : Place} (e : w ≡ puts x ws) (f : y ≡ puts w xs) (g : z ≡ puts y ys) where
  pub puts_three : z ≡ puts x (ws ++ xs ++ ys)
  puts_three = puts_then x (ws ++ xs) ys (puts_then x ws xs e f) g

  pub puts_four : (zs : List ℕ) {v : Place} → v ≡ puts z zs → v ≡ puts x (ws ++ xs ++ ys ++ zs)
  puts_four zs h = puts_then x (ws ++ xs ++ ys) zs puts_three h

pub puts_next :
    (x : Place) (w : List ℕ) (i : ℕ) {y z : Place} → i < length w → y ≡ puts x (take i w) → z ≡ puts y (get_or w i 0 ∷ [])
    → z ≡ puts x (take (i + 1) w)
puts_next x w i h e f =
    puts_then x (take i w) (get_or w i 0 ∷ []) e f
    ∙ ap (puts x) (sym (take-suc w i 0 h) ∙ ap (λ n. take n w) (suc-eq-add-one i))

-- one byte at the end of a front: in the place of the next one, or nowhere
put_after : (front rest : List ℕ) (c b : ℕ) → put (left (length front) (front ++ c ∷ rest)) b ≡ left (length front + 1) (front ++ b ∷ rest)
unfolding put
put_after front rest c b =
    let long = length-append front (c ∷ rest) in
    rw (lt-ltb (length front) (length (front ++ c ∷ rest)) (omega (arith, long)))
    (ap (left (length front + 1)) (set_at front c rest b (length front) refl))

module _ (front rest text : List ℕ) where
  abbrev after : Place
  after = left (length front + min (length text) (length rest)) (front ++ (take (length rest) text ++ drop (length text) rest))

pub puts_after : (front rest text : List ℕ) → puts (left (length front) (front ++ rest)) text ≡ after front rest text
unfolding puts
puts_after front [] text =
    ap (λ f. puts (left (length front) f) text) (append-nil front) ∙ sym (puts_past (length front) text front (omega arith))
    ∙ ap (λ n. left n front) (omega arith) ∙ ap (left (length front + min (length text) 0)) (sym (ap (λ r. front ++ r) (drop-nil (length text)) ∙ append-nil front))
puts_after front (c ∷ rest) [] = ap (λ n. left n (front ++ c ∷ rest)) (omega arith)
puts_after front (c ∷ rest) (b ∷ text) =
    let more : length (front ++ b ∷ []) ≡ length front + 1 = length-append front (b ∷ []) in
    ap (λ x. puts x text) (put_after front rest c b ∙ ap (λ n. left n (front ++ b ∷ rest)) (sym more) ∙ ap (left (length (front ++ b ∷ []))) (sym (append_snoc front b rest)))
    ∙ puts_after (front ++ b ∷ []) rest text
    ∙ ap (left (length (front ++ b ∷ []) + min (length text) (length rest))) (append_snoc front b (take (length rest) text ++ drop (length text) rest))
    ∙ ap (λ n. left n (front ++ b ∷ (take (length rest) text ++ drop (length text) rest))) (omega (arith, more))

pub puts_laid : (buffer text : List ℕ) → puts (left 0 buffer) text ≡ laid text buffer
puts_laid buffer text = puts_after [] buffer text ∙ ap (λ n. left n (laid text buffer).lent) (zero-add _)
