-- Isolation of a step, over the definition: demand 2, "an access happens if the rule allows its every byte, and otherwise not at all".
--     isolated      what a step does depends on memory only where the active domain may read (by lemma 7 also: fetch), and it sets
--                   a run of bytes each of which the domain may write, or none
--     untouched     so a byte that the domain may not write is as it was
--     tick_elsewhere, word_elsewhere   tick and word_in change no memory
--     step_names    a step's answer names the domain that was active
-- What the domain may not write, read or fetch is Table1's.
-- Assumes nothing.
use Prim.Native.Nat.{ℕ, zero, suc, ◌+◌, ◌<◌}
use Rattle.std.specs.Prelude.{◌≡◌, Bool, true, false, ◌≢◌, eqb, length, get_or, set}
use Rattle.std.proofs.Math.Path.{refl, ap₂}
use Rattle.std.proofs.Common.{sym, ap, ◌∙◌, get_or-set_other, eqb-true}
use mathlib.Core.List.{List, [], ◌∷◌}
use native.Mathlib.Omega.{arith}
use Rattle.std.proofs.lemmas.List.Edits.{sets}
use Rattle.model.proofs.BasicsLaws.{by_bool, by_option, either, true_false}
use Rattle.model.specs.Map.{Grid, is_domain, Rights, rights, domain, may, lowest}
use Rattle.model.proofs.MapLaws.{lowest_none, may_read}
use Rattle.model.specs.States.{context, own, full}
use Rattle.model.specs.Instructions.{Plan, Deed, Done, peek, carry, plan}
use Rattle.model.specs.Events.{Outcome, answer_domain, gives, perform, attempt, step, tick, word_in, event}
use Rattle.model.specs.EventsLaws.{acts}
use Rattle.model.proofs.EventsLaws.{step_idle, step_acts, deed_answer}
use Rattle.model.specs.declared.map.Map.{Map}
use Rattle.model.specs.declared.map.Access.{Access}
use Rattle.model.specs.declared.state.State.{State}
use Rattle.model.specs.declared.event.Event.{Event}

-- ---- one plan, with two memories that agree wherever an access is allowed

-- both memories get the same bytes at the same place, and each of them may be written there. No bytes: nothing changes
pub record Set (writes : ℕ → Bool) (before after before' after' : List ℕ) : Type 0 where
  pub place : ℕ
  pub bytes : List ℕ
  pub allowed : (i : ℕ) → i < length bytes → writes (place + i) ≡ true
  pub here : after ≡ sets before place bytes
  pub there : after' ≡ sets before' place bytes

unset : (writes : ℕ → Bool) (memory memory' : List ℕ) → Set writes memory memory memory' memory'
unset writes memory memory' =
    record { place = 0; bytes = []; allowed = λ i h. absurd (omega arith); here = refl; there = refl }

module _ (q : Rights) (memory memory' : List ℕ) where
  abbrev Alike : Plan → Type 0
  Alike p =
      ((carry q memory p).deed ≡ (carry q memory' p).deed)
      × Set (q.allows Access.Write) memory (carry q memory p).memory memory' (carry q memory' p).memory

  module _ (same : (k : Access) (a : ℕ) → q.allows k a ≡ true → get_or memory a 0 ≡ get_or memory' a 0) where
    peek_alike :
        (k : Access) (a n : ℕ) → ((i : ℕ) → i < n → q.allows k (a + i) ≡ true) → peek memory a n ≡ peek memory' a n
    unfolding peek
    peek_alike k a zero h = refl
    peek_alike k a (suc n) h =
        let z : a + 0 ≡ a = omega arith in
        ap₂ ◌∷◌ (same k a (rw z at (h 0 (omega arith))))
        (peek_alike k (a + 1) n (λ i l. let y : a + suc i ≡ a + 1 + i = omega arith in rw y at (h (suc i) (omega arith))))

    carry_alike : (p : Plan) → Alike p
    unfolding carry
    carry_alike (Plan.ask k a n go) =
        by_option (lowest (q.allows k) a n)
        (λ e. rw (e, peek_alike k a n (lowest_none (q.allows k) a n e)) (carry_alike (go (peek memory' a n))))
        (λ x e. rw e (refl, unset _ memory memory'))
    carry_alike (Plan.store a bs c) =
        by_option (lowest (q.allows Access.Write) a (length bs))
        (λ e. rw e (refl, record { place = a; bytes = bs; allowed = lowest_none _ a (length bs) e; here = refl; there = refl }))
        (λ x e. rw e (refl, unset _ memory memory'))
    carry_alike (Plan.pass t w c) =
        by_bool (q.sends t) (λ e. rw e (refl, unset _ memory memory')) (λ e. rw e (refl, unset _ memory memory'))
    carry_alike (Plan.end x) = (refl, unset _ memory memory')

-- ---- one step

-- a deed's answer and state do not look at the memory, which it hands on
perform_hands_on :
    (count : ℕ) (s : State) (memory : List ℕ) (x : Deed)
    → perform count s memory x ≡ gives (perform count s [] x).answer (perform count s [] x).state memory
unfolding perform
perform_hands_on count s memory (Deed.runs c) = refl
perform_hands_on count s memory (Deed.gives_way c) = refl
perform_hands_on count s memory Deed.waits = refl
perform_hands_on count s memory Deed.halts = refl
perform_hands_on count s memory (Deed.faults r) = refl
perform_hands_on count s memory (Deed.sends t w c) = refl

-- a step's answer names the domain that was active, and idle nobody
pub step_names : (m : Map) (g : Grid) (s : State) (memory : List ℕ) → answer_domain (step m g s memory).answer ≡ s.active
step_names m g s memory =
    by_bool (eqb s.active 0)
    (λ e. rw (step_idle m g s memory e) (sym (eqb-true s.active 0 e)))
    (λ e. rw (step_acts m g s memory e) (deed_answer (λ a. answer_domain a ≡ s.active) m.count s _ (attempt m g s memory).deed refl refl refl (λ r. refl)))

-- two outcomes that differ in nothing but what the memories did before, where the domain may not read
pub record Isolated (writes : ℕ → Bool) (memory memory' : List ℕ) (o o' : Outcome) : Type 0 where
  pub answers : o.answer ≡ o'.answer
  pub states : o.state ≡ o'.state
  pub written : Set writes memory o.memory memory' o'.memory

acts_alike :
    (writes : ℕ → Bool) (memory memory' : List ℕ) (count : ℕ) (s : State) (x x' : Done)
    → x.deed ≡ x'.deed → Set writes memory x.memory memory' x'.memory
    → Isolated writes memory memory' (acts count s x) (acts count s x')
acts_alike writes memory memory' count s x x' e w =
    rw (perform_hands_on count s x.memory x.deed, perform_hands_on count s x'.memory x'.deed, e)
    (record { answers = refl; states = refl; written = w })

pub isolated :
    (m : Map) (g : Grid) (s : State) (memory memory' : List ℕ)
    → ((a : ℕ) → may (domain m s.active) Access.Read a ≡ true → get_or memory a 0 ≡ get_or memory' a 0)
    → Isolated (may (domain m s.active) Access.Write) memory memory' (step m g s memory) (step m g s memory')
isolated m g s memory memory' same =
    by_bool (eqb s.active 0)
    (λ e.
    rw (step_idle m g s memory e, step_idle m g s memory' e)
    (record { answers = refl; states = refl; written = unset _ memory memory' }))
    (λ e.
    let h = carry_alike (rights m g s.active) memory memory' (λ k a x. same a (may_read (domain m s.active) k a x))
    (plan (own s)) in
    rw (step_acts m g s memory e, step_acts m g s memory' e)
    (acts_alike _ memory memory' m.count s (attempt m g s memory) (attempt m g s memory') h.0 h.1))

-- ---- what may not be written is as it was

sets_elsewhere :
    (l : List ℕ) (a : ℕ) (bs : List ℕ) (x : ℕ) → ((i : ℕ) → i < length bs → x ≢ a + i) → get_or (sets l a bs) x 0 ≡ get_or l x 0
sets_elsewhere l a [] x h = refl
sets_elsewhere l a (b ∷ bs) x h =
    sets_elsewhere (set l a b) (suc a) bs x (λ i k e. h (suc i) (omega arith) (omega arith))
    ∙ get_or-set_other l a x b 0 (λ e. h 0 (omega arith) (omega arith))

pub untouched :
    (m : Map) (g : Grid) (s : State) (memory : List ℕ) (x : ℕ)
    → may (domain m s.active) Access.Write x ≡ false → get_or (step m g s memory).memory x 0 ≡ get_or memory x 0
untouched m g s memory x e =
    let w = (isolated m g s memory memory (λ a h. refl)).written in
    ap (λ l. get_or l x 0) w.here
    ∙ sets_elsewhere memory w.place w.bytes x
    (λ i h f. true_false (ap (may (domain m s.active) Access.Write) f ∙ w.allowed i h) e)

pub tick_elsewhere : (m : Map) (g : Grid) (s : State) (memory : List ℕ) → (event m g s memory Event.Tick).memory ≡ memory
unfolding event tick
tick_elsewhere m g s memory = either (λ (o : Outcome). o.memory ≡ memory) (eqb s.active 0) refl refl

pub word_elsewhere :
    (m : Map) (g : Grid) (s : State) (memory : List ℕ) (b w : ℕ) → (event m g s memory (Event.WordIn b w)).memory ≡ memory
unfolding event word_in
word_elsewhere m g s memory b w =
    let P : Outcome → Type 0 = λ o. o.memory ≡ memory in
    either P (is_domain m.count b) (either P (full (context s b).mailbox) refl refl) refl
