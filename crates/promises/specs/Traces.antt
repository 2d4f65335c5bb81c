-- Demand 1, "A trace with a broken record keeps the events before it, no more."
--     events_before     bytes that spell events, and then others, read as those events and then as the others do
--     broken_after      so where a broken record comes next, the events are those before it, and the offset is that record's
--     broken_numbers    a broken record's number is 11 or 12, and so is that of a trace that closes broken
-- Assumes nothing.
use Rattle.std.specs.Prelude.{ℕ, zero, suc, ◌+◌, ◌^◌, ◌<◌, ◌≡◌, refl, ◌⊎◌, List, [], ◌∷◌, ◌++◌, leb, eqb, length, drop, Ok, Err}
use Rattle.std.proofs.Common.{sym, ap, ◌∙◌, inl, inr, add-zero, zero-add, arith, le-leb}
use Rattle.model.specs.Basics.{bytes}
use Rattle.model.proofs.BasicsLaws.{number_bytes, either}
use Rattle.model.specs.Refusals.{refusal_number}
use Rattle.model.specs.Events.{Trace, ended, follow, event_read, next, trace, trace_of}
use Rattle.model.proofs.TraceLaws.{trace_whole, trace_broken}
use Rattle.model.specs.declared.event.Event.{Event}
use Rattle.model.specs.declared.call.Stop.{Stop}
use Rattle.model.specs.Answers.{EventRead, Close, refused_at}
use Rattle.model.specs.declared.refusal.Refusal.{Refusal}

-- "Kind 1, no body: step. Kind 2, no body: tick. Kind 3, body of a domain byte and a 32-bit word"
abbrev pub event_bytes : Event → List ℕ
event_bytes Event.Step = 1 ∷ []
event_bytes Event.Tick = 2 ∷ []
event_bytes (Event.WordIn b w) = 3 ∷ b ∷ bytes w

abbrev pub trace_bytes : List Event → List ℕ
trace_bytes [] = []
trace_bytes (e ∷ es) = event_bytes e ++ trace_bytes es

-- a word has 32 bits
abbrev pub Words : List Event → Type 0
Words [] = Unit {0}
Words (Event.Step ∷ es) = Words es
Words (Event.Tick ∷ es) = Words es
Words (Event.WordIn b w ∷ es) = (w < 2 ^ 32) × Words es

abbrev pub followed : List Event → Trace → Trace
followed [] t = t
followed (e ∷ es) t = follow e (followed es t)

onward : (es : List Event) (tail : List ℕ) {a b : ℕ} → a ≡ b → followed es (trace_of a tail) ≡ followed es (trace_of b tail)
onward es tail e = ap (λ n. followed es (trace_of n tail)) e

word_read :
    (b w : ℕ) (rest : List ℕ) → w < 2 ^ 32 → event_read (3 ∷ b ∷ (bytes w ++ rest)) ≡ Ok (Event.WordIn b w, 6)
unfolding event_read
word_read b w rest h =
    rw (le-leb 6 (length (3 ∷ b ∷ (bytes w ++ rest))) (omega arith))
    (ap (λ x. Ok (Event.WordIn b x, 6)) (number_bytes w h))

pub events_before :
    (es : List Event) (at : ℕ) (tail : List ℕ) → Words es
    → trace_of at (trace_bytes es ++ tail) ≡ followed es (trace_of (at + length (trace_bytes es)) tail)
unfolding event_read
events_before [] at tail h = ap (λ n. trace_of n tail) (sym (add-zero at))
events_before (Event.Step ∷ es) at tail h =
    trace_whole at 1 (trace_bytes es ++ tail) Event.Step 1 refl
    ∙ ap (follow Event.Step) (events_before es (at + 1) tail h ∙ onward es tail (omega arith))
events_before (Event.Tick ∷ es) at tail h =
    trace_whole at 2 (trace_bytes es ++ tail) Event.Tick 1 refl
    ∙ ap (follow Event.Tick) (events_before es (at + 1) tail h ∙ onward es tail (omega arith))
events_before (Event.WordIn b w ∷ es) at tail h =
    trace_whole at 3 (b ∷ (bytes w ++ (trace_bytes es ++ tail))) (Event.WordIn b w) 6 (word_read b w (trace_bytes es ++ tail) h.0)
    ∙ ap (follow (Event.WordIn b w)) (events_before es (at + 6) tail h.1 ∙ onward es tail (omega arith))

followed_events : (es : List Event) (x : Close) → followed es (ended x) ≡ record { events = es; close = x }
followed_events [] x = refl
followed_events (e ∷ es) x = ap (follow e) (followed_events es x)

pub broken_after :
    (es : List Event) (b : ℕ) (tail : List ℕ) (r : Refusal) → Words es → event_read (b ∷ tail) ≡ Err r
    → trace_of 0 (trace_bytes es ++ (b ∷ tail)) ≡ record { events = es; close = Err (Stop.Broken (refused_at r (length (trace_bytes es)))) }
broken_after es b tail r h e =
    events_before es 0 (b ∷ tail) h
    ∙ ap (followed es) (trace_broken _ b tail r e)
    ∙ ap (λ n. followed es (ended (Err (Stop.Broken (refused_at r n))))) (zero-add (length (trace_bytes es)))
    ∙ followed_events es _

-- "Playing a trace stops at its first broken record with 11 or 12"
abbrev Number : EventRead → Type 0
Number (Ok (e, n)) = Unit {0}
Number (Err r) = (refusal_number r ≡ 11) ⊎ (refusal_number r ≡ 12)

read_number : (s : List ℕ) → Number (event_read s)
unfolding event_read
read_number [] = inr refl
read_number (k ∷ s) =
    either Number (eqb k 1) tt
    (either Number (eqb k 2) tt (either Number (eqb k 3) (either Number (leb 6 (length (k ∷ s))) tt (inr refl)) (inl refl)))

-- done or broken, and never refused: a refusal is the call's
abbrev pub Closing : Close → Type 0
Closing (Ok tt) = Unit {0}
Closing (Err (Stop.Broken f)) = (refusal_number f.refusal ≡ 11) ⊎ (refusal_number f.refusal ≡ 12)
Closing (Err (Stop.Refused r)) = ⊥

next_number :
    (at : ℕ) (x : EventRead) (go : ℕ → Trace) → Number x → ((n : ℕ) → Closing (go n).close) → Closing (next at x go).close
next_number at (Ok (e, n)) go h f = f n
next_number at (Err r) go h f = h

pub trace_number : (rounds at : ℕ) (s : List ℕ) → Closing (trace rounds at s).close
unfolding trace
trace_number zero at s = tt
trace_number (suc rounds) at [] = tt
trace_number (suc rounds) at (b ∷ s) =
    next_number at (event_read (b ∷ s)) _ (read_number (b ∷ s)) (λ n. trace_number rounds (at + n) (drop n (b ∷ s)))

pub broken_numbers :
    (at : ℕ) (s : List ℕ) (r : Refusal) (x : ℕ) → (trace_of at s).close ≡ Err (Stop.Broken (refused_at r x))
    → (refusal_number r ≡ 11) ⊎ (refusal_number r ≡ 12)
broken_numbers at s r x e = rw e at (trace_number (length s) at s)
