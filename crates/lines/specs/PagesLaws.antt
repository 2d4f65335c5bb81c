-- Laws of Pages.
--     onto_append, onto_then      a text in two parts
--     onto_room, onto_past      a word where there is room, as far as it goes, and where there is none
--     told_shown       what is printed, put onto a page with nothing on it
-- Assumes nothing.
use Rattle.std.specs.Prelude.{ℕ, ◌+◌, ◌-◌, ◌≤◌, min, ◌≡◌, List, ◌++◌, length, take, drop}
use Rattle.std.proofs.Common.{sym, ap, ◌∙◌, arith, length-take-le, length-drop, take-append-drop}
use Rattle.std.proofs.lemmas.List.{take_min, drop_min}
use borrow.Rule.Slice.PartMut.{put_mid}
use Rattle.model.specs.Calls.{left}
use Rattle.model.specs.Program.{Printed, shown}
use Rattle.lines.specs.Puts.{puts}
use Rattle.lines.specs.PutsLaws.{puts_append, puts_after, puts_past, puts_laid}
use Rattle.lines.specs.declared.text.Page.{Page}
use Rattle.lines.specs.Pages.{place, moved, onto, told_onto}

pub onto_append : (p : Page) (xs ys : List ℕ) → onto p (xs ++ ys) ≡ onto (onto p xs) ys
onto_append p xs ys = ap (moved p) (puts_append (place p) xs ys)

pub onto_then : (p : Page) (xs ys : List ℕ) {q r : Page} → q ≡ onto p xs → r ≡ onto q ys → r ≡ onto p (xs ++ ys)
onto_then p xs ys e f = f ∙ ap (λ q. onto q ys) e ∙ sym (onto_append p xs ys)

-- the first n bytes of a word, in the middle of a buffer
puts_mid :
    (buffer w : List ℕ) (at n k : ℕ) → at ≤ length buffer → n ≡ min (length w) (length buffer - at) → k ≡ n
    → left (at + n) (put_mid at k buffer (take n w)) ≡ puts (left at buffer) w
puts_mid buffer w at n k h e f =
    let front = take at buffer in
    let rest = drop at buffer in
    let before : length front ≡ at = length-take-le at buffer h in
    let after : length rest ≡ length buffer - at = length-drop at buffer in
    let new : take n w ≡ take (length rest) w = ap (λ i. take i w) (omega (arith, after, e)) ∙ take_min (length rest) w in
    let old : drop k rest ≡ drop (length w) rest = ap (λ i. drop i rest) (omega (arith, after, e, f)) ∙ drop_min (length w) rest in
    ap (λ i. left i (front ++ (take n w ++ drop k rest))) (omega (arith, before, after, e))
    ∙ ap (λ l. left (length front + min (length w) (length rest)) (front ++ (l ++ drop k rest))) new
    ∙ ap (λ l. left (length front + min (length w) (length rest)) (front ++ (take (length rest) w ++ l))) old
    ∙ sym (puts_after front rest w)
    ∙ ap (λ i. puts (left i (front ++ rest)) w) before
    ∙ ap (λ l. puts (left at l) w) (take-append-drop at buffer)

pub onto_room :
    (p : Page) (w l : List ℕ) (n k : ℕ) → p.end ≤ length p.text.now → n ≡ min (length w) (length p.text.now - p.end) → k ≡ n → l ≡ take n w
    → moved p (left (p.end + n) (put_mid p.end k p.text.now l)) ≡ onto p w
onto_room p w l n k h e f g =
    ap (λ b. moved p (left (p.end + n) (put_mid p.end k p.text.now b))) g ∙ ap (moved p) (puts_mid p.text.now w p.end n k h e f)

pub onto_past : (p : Page) (w : List ℕ) → length p.text.now ≤ p.end → p ≡ onto p w
onto_past p w h = ap (moved p) (puts_past p.end w p.text.now h)

pub told_shown :
    (p : Page) (q : Printed) {r : Page} {memory : List ℕ} → p.end ≡ 0 → left r memory ≡ told_onto p q → left (place r) memory ≡ shown q p.text.now
told_shown p q h e =
    ap (λ l. left (place l.value) l.lent) e ∙ ap (λ i. left (puts (left i p.text.now) q.text) q.memory) h
    ∙ ap (λ x. left x q.memory) (puts_laid p.text.now q.text)
