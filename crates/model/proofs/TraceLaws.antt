-- Laws of Events: reading a trace, without its rounds.
--     rounds_enough                  more rounds give the same
--     trace_empty, -whole, -broken   how reading goes on
--     rest_end, -whole, -broken      the same, of the bytes that are left of a longer trace
--     rest_read                      what is read of those bytes, as a slice has them
--     rest_takes, read_takes         an event takes a byte at least, and no more than there are
-- Assumes nothing.
use Rattle.std.specs.Prelude.{ℕ, zero, suc, ◌+◌, ◌-◌, ◌≤◌, ◌<◌, ◌≡◌, refl, List, [], ◌∷◌, leb, eqb, length, take, drop, Ok, Err}
use Rattle.std.proofs.Common.{sym, ap, ◌∙◌, arith, length-drop, drop_of_length-le, drop-cons, drop-drop, leb-true}
use borrow.Author.Rules.{part_to_end}
use Rattle.model.proofs.BasicsLaws.{by_bool}
use Rattle.model.specs.Events.{event_read, Trace, ended, follow, next, trace, trace_of}
use Rattle.model.specs.declared.event.Event.{Event}
use Rattle.model.specs.declared.call.Stop.{Stop}
use Rattle.model.specs.Answers.{EventRead, refused_at}
use Rattle.model.specs.declared.refusal.Refusal.{Refusal}

-- an event takes a byte at least, and no more than there are
abbrev Within : List ℕ → EventRead → Type 0
Within s (Ok (e, n)) = (1 ≤ n) × (n ≤ length s)
Within s (Err r) = Unit {0}

read_within : (s : List ℕ) → Within s (event_read s)
unfolding event_read
read_within [] = tt
read_within (kind ∷ s) =
    let long = length (kind ∷ s) in
    by_bool (eqb kind 1) (λ e. rw e (omega arith, omega arith))
    (λ e. by_bool (eqb kind 2) (λ f. rw (e, f) (omega arith, omega arith))
    (λ f. by_bool (eqb kind 3)
    (λ q. by_bool (leb 6 long) (λ l. rw (e, f, q, l) (omega arith, leb-true 6 long l)) (λ l. rw (e, f, q, l) tt))
    (λ q. rw (e, f, q) tt)))

whole_takes : (s : List ℕ) (e : Event) (n : ℕ) → event_read s ≡ Ok (e, n) → (1 ≤ n) × (n ≤ length s)
whole_takes s e n w = rw w at (read_within s)

next_alike :
    (at : ℕ) (s : List ℕ) (r : EventRead) (go go' : ℕ → Trace) → Within s r → ((n : ℕ) → 1 ≤ n → go n ≡ go' n)
    → next at r go ≡ next at r go'
next_alike at s (Ok (e, n)) go go' h f = ap (follow e) (f n h.0)
next_alike at s (Err r) go go' h f = refl

pub rounds_enough : (n k at : ℕ) (s : List ℕ) → length s ≤ n → length s ≤ k → trace n at s ≡ trace k at s
unfolding trace
rounds_enough zero zero at s h l = refl
rounds_enough zero (suc k) at [] h l = refl
rounds_enough zero (suc k) at (b ∷ s) h l = absurd (omega arith)
rounds_enough (suc n) zero at [] h l = refl
rounds_enough (suc n) zero at (b ∷ s) h l = absurd (omega arith)
rounds_enough (suc n) (suc k) at [] h l = refl
rounds_enough (suc n) (suc k) at (b ∷ s) h l =
    next_alike at (b ∷ s) (event_read (b ∷ s)) _ _ (read_within (b ∷ s))
    (λ i q. rounds_enough n k (at + i) (drop i (b ∷ s)) (simp length-drop (omega arith)) (simp length-drop (omega arith)))

-- "An empty trace is done with 0."
pub trace_empty : (at : ℕ) → trace_of at [] ≡ ended (Ok tt)
unfolding trace
trace_empty at = refl

pub trace_whole :
    (at b : ℕ) (s : List ℕ) (e : Event) (n : ℕ) → event_read (b ∷ s) ≡ Ok (e, n)
    → trace_of at (b ∷ s) ≡ follow e (trace_of (at + n) (drop n (b ∷ s)))
unfolding trace
trace_whole at b s e n w =
    let h = (whole_takes (b ∷ s) e n w).0 in
    ap (λ r. next at r (λ i. trace (length s) (at + i) (drop i (b ∷ s)))) w
    ∙ ap (follow e)
    (rounds_enough (length s) (length (drop n (b ∷ s))) (at + n) (drop n (b ∷ s)) (simp length-drop (omega arith)) (omega arith))

pub trace_broken :
    (at b : ℕ) (s : List ℕ) (r : Refusal) → event_read (b ∷ s) ≡ Err r
    → trace_of at (b ∷ s) ≡ ended (Err (Stop.Broken (refused_at r at)))
unfolding trace
trace_broken at b s r w = ap (λ x. next at x (λ i. trace (length s) (at + i) (drop i (b ∷ s)))) w

-- at bytes of a trace are read
module _ (bytes : List ℕ) (at : ℕ) where
  pub rest_end : length bytes ≤ at → trace_of at (drop at bytes) ≡ ended (Ok tt)
  rest_end h = ap (trace_of at) (drop_of_length-le bytes h) ∙ trace_empty at

  pub rest_read : {r : EventRead} → r ≡ event_read (take (length bytes - at) (drop at bytes)) → event_read (drop at bytes) ≡ r
  rest_read q = sym (q ∙ ap event_read (part_to_end bytes at))

  module _ (h : at < length bytes) where
    pub rest_broken :
        (r : Refusal) → event_read (drop at bytes) ≡ Err r → trace_of at (drop at bytes) ≡ ended (Err (Stop.Broken (refused_at r at)))
    rest_broken r e =
        ap (trace_of at) (drop-cons bytes at 0 h) ∙ trace_broken at _ _ r (ap event_read (sym (drop-cons bytes at 0 h)) ∙ e)

    pub rest_whole :
        (e : Event) (n : ℕ) → event_read (drop at bytes) ≡ Ok (e, n)
        → trace_of at (drop at bytes) ≡ follow e (trace_of (at + n) (drop (at + n) bytes))
    rest_whole e n w =
        ap (trace_of at) (drop-cons bytes at 0 h)
        ∙ trace_whole at _ _ e n (ap event_read (sym (drop-cons bytes at 0 h)) ∙ w)
        ∙ ap (λ b. follow e (trace_of (at + n) (drop n b))) (sym (drop-cons bytes at 0 h))
        ∙ ap (λ b. follow e (trace_of (at + n) b)) (drop-drop n at bytes)

    pub rest_takes : (e : Event) (n : ℕ) → event_read (drop at bytes) ≡ Ok (e, n) → (1 ≤ n) × (at + n ≤ length bytes)
    rest_takes e n w =
        let long = length-drop at bytes in
        let takes = whole_takes (drop at bytes) e n w in (takes.0, omega (arith, takes.1))

    pub read_takes :
        {r : EventRead} {e : Event} {n : ℕ} → r ≡ event_read (take (length bytes - at) (drop at bytes)) → r ≡ Ok (e, n)
        → (1 ≤ n) × (at + n ≤ length bytes)
    read_takes q w = rest_takes _ _ (rest_read q ∙ w)
