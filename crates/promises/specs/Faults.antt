-- Demand 2: an access that is denied does not happen at all, and one that is allowed happens whole.
--     fault_only     a fault sets the status, and the switch the active domain; nothing else changes
--     fault_earned   no fault without its cause: a denied address, a channel not granted, a kind above 19, a register above 7
--     all_or_none    a store sets every byte where each is allowed, and none where one is denied, and reports the lowest of those
--     only_stores    nothing but a store changes memory
-- Assumes nothing.
use Rattle.std.specs.Prelude.{ℕ, ◌≡◌, refl, List, ◌⊎◌, eqb, length}
use Rattle.std.proofs.Common.{sym, ap, ◌∙◌, subst, inl, inr}
use Rattle.std.proofs.Math.Option.{none, some}
use Rattle.std.proofs.lemmas.List.Edits.{sets}
use Rattle.model.specs.Basics.{unless}
use Rattle.model.proofs.BasicsLaws.{by_bool, by_option, either}
use Rattle.model.specs.Map.{Grid, is_domain, Rights, rights, lowest}
use Rattle.model.specs.States.{full, with_status, context, own, put_own, switch}
use Rattle.model.specs.Instructions.{Plan, Deed, Done, kept, denied, peek, carry, plan}
use Rattle.model.specs.InstructionsLaws.{Earned, Fits}
use Rattle.model.proofs.InstructionsLaws.{carry_each, plan_fits}
use Rattle.model.specs.Events.{Outcome, gives, perform, attempt, tick, word_in, event}
use Rattle.model.specs.EventsLaws.{acts}
use Rattle.model.proofs.EventsLaws.{step_idle, step_acts}
use Rattle.model.specs.declared.map.Map.{Map}
use Rattle.model.specs.declared.map.Access.{Access}
use Rattle.model.specs.declared.state.Reason.{Reason}
use Rattle.model.specs.declared.state.Status.{Status}
use Rattle.model.specs.declared.state.Context.{Context}
use Rattle.model.specs.declared.state.State.{State}
use Rattle.model.specs.declared.event.Event.{Event}
use Rattle.model.specs.declared.event.Answer.{Answer}

-- ---- a fault

carry_fault :
    (q : Rights) (memory : List ℕ) (p : Plan) (r : Reason) → (carry q memory p).deed ≡ Deed.faults r
    → carry q memory p ≡ kept memory (Deed.faults r)
unfolding carry
carry_fault q memory (Plan.ask k a n go) r =
    by_option (lowest (q.allows k) a n) (λ e. rw e (carry_fault q memory (go (peek memory a n)) r)) (λ x e. rw e (ap (kept memory)))
carry_fault q memory (Plan.store a bs c) r =
    by_option (lowest (q.allows Access.Write) a (length bs)) (λ e. rw e (λ h. cc)) (λ x e. rw e (ap (kept memory)))
carry_fault q memory (Plan.pass t w c) r =
    by_bool (q.sends t) (λ e. rw e (ap (kept memory))) (λ e. rw e (ap (kept memory)))
carry_fault q memory (Plan.end x) r = ap (kept memory)

perform_fault :
    (count : ℕ) (s : State) (memory : List ℕ) (x : Deed) (d : ℕ) (r : Reason)
    → (perform count s memory x).answer ≡ Answer.Faulted d r → (s.active ≡ d) × (x ≡ Deed.faults r)
unfolding perform
perform_fault count s memory (Deed.runs c) d r e = ((cc), (cc))
perform_fault count s memory (Deed.gives_way c) d r e = ((cc), (cc))
perform_fault count s memory Deed.waits d r e = ((cc), (cc))
perform_fault count s memory Deed.halts d r e = ((cc), (cc))
perform_fault count s memory (Deed.faults y) d r e = ((cc), (cc))
perform_fault count s memory (Deed.sends t w c) d r e = ((cc), (cc))

-- the outcome of a fault of the active domain, and of nothing else
abbrev pub faulted : ℕ → State → List ℕ → Reason → Outcome
faulted count s memory r =
    gives (Answer.Faulted s.active r)
    (switch count (put_own s (with_status (own s) (Status.Faulted r)))) memory

-- an answer that is a fault comes from the active domain's instruction, and from nothing else
abbrev Explained : Map → Grid → State → List ℕ → ℕ → Reason → Outcome → Type 0
Explained m g s memory d r o =
    o.answer ≡ Answer.Faulted d r
    → (s.active ≡ d) × ((attempt m g s memory).deed ≡ Deed.faults r) × (o ≡ faulted m.count s memory r)

explained :
    (m : Map) (g : Grid) (s : State) (memory : List ℕ) (e : Event) (d : ℕ) (r : Reason)
    → Explained m g s memory d r (event m g s memory e)
unfolding event tick word_in perform
explained m g s memory Event.Step d r =
    by_bool (eqb s.active 0)
    (λ e. rw (step_idle m g s memory e) (λ h. ((cc), (cc), (cc))))
    (λ e h.
    let a = step_acts m g s memory e in
    let x = attempt m g s memory in
    let f = perform_fault m.count s x.memory x.deed d r (sym (ap (λ o. o.answer) a) ∙ h) in
    (f.0, f.1, a ∙ ap (acts m.count s) (carry_fault (rights m g s.active) memory (plan (own s)) r f.1)))
explained m g s memory Event.Tick d r =
    either (Explained m g s memory d r) (eqb s.active 0) (λ h. ((cc), (cc), (cc))) (λ h. ((cc), (cc), (cc)))
explained m g s memory (Event.WordIn b w) d r =
    let P : Outcome → Type 0 = Explained m g s memory d r in
    either P (is_domain m.count b)
    (either P (full (context s b).mailbox) (λ h. ((cc), (cc), (cc))) (λ h. ((cc), (cc), (cc))))
    (λ h. ((cc), (cc), (cc)))

module _ (m : Map) (g : Grid) (s : State) (memory : List ℕ) (e : Event) (d : ℕ) (r : Reason) where
  pub fault_only :
      (event m g s memory e).answer ≡ Answer.Faulted d r
      → (s.active ≡ d) × (event m g s memory e ≡ faulted m.count s memory r)
  fault_only h = let x = explained m g s memory e d r h in (x.0, x.2)

  -- no fault without its cause
  pub fault_earned : (event m g s memory e).answer ≡ Answer.Faulted d r → Earned (rights m g s.active) r
  fault_earned h =
      let q = rights m g s.active in
      let f = carry_each (Fits q (own s)) q (λ r e. e) memory (plan (own s)) (plan_fits q (own s)) in
      subst (Fits q (own s)) (explained m g s memory e d r h).1 f

-- ---- a store

-- what a plan comes to once its asks are answered: a store, a word to pass, or an end; a denied ask ends in its fault
unfoldable pub settled : Rights → List ℕ → Plan → Plan
settled q memory (Plan.ask k a n go) =
    let rest = settled q memory (go (peek memory a n)) in
    unless (lowest (q.allows k) a n) (λ x. Plan.end (Deed.faults (denied k x))) rest
settled q memory (Plan.store a bs c) = Plan.store a bs c
settled q memory (Plan.pass t w c) = Plan.pass t w c
settled q memory (Plan.end x) = Plan.end x

carry_settled : (q : Rights) (memory : List ℕ) (p : Plan) → carry q memory p ≡ carry q memory (settled q memory p)
unfolding carry settled
carry_settled q memory (Plan.ask k a n go) =
    by_option (lowest (q.allows k) a n) (λ e. rw e (carry_settled q memory (go (peek memory a n)))) (λ x e. rw e)
carry_settled q memory (Plan.store a bs c) = refl
carry_settled q memory (Plan.pass t w c) = refl
carry_settled q memory (Plan.end x) = refl

pub all_or_none :
    (q : Rights) (memory : List ℕ) (p : Plan) (a : ℕ) (bs : List ℕ) (c : Context) → settled q memory p ≡ Plan.store a bs c
    → ((lowest (q.allows Access.Write) a (length bs) ≡ none) × (carry q memory p ≡ kept (sets memory a bs) (Deed.runs c)))
    ⊎ ((x : ℕ) × (lowest (q.allows Access.Write) a (length bs) ≡ some x)
    × (carry q memory p ≡ kept memory (Deed.faults (Reason.Write x))))
unfolding carry
all_or_none q memory p a bs c e =
    let f = carry_settled q memory p ∙ ap (carry q memory) e in
    by_option (lowest (q.allows Access.Write) a (length bs)) (λ l. inl (l, f ∙ rw l)) (λ x l. inr (x, l, f ∙ rw l))

abbrev IsStore : Plan → Type 0
IsStore (Plan.ask k a n go) = ⊥
IsStore (Plan.store a bs c) = Unit {0}
IsStore (Plan.pass t w c) = ⊥
IsStore (Plan.end x) = ⊥

pub only_stores :
    (q : Rights) (memory : List ℕ) (p : Plan) → (IsStore (settled q memory p) → ⊥) → (carry q memory p).memory ≡ memory
unfolding carry settled
only_stores q memory (Plan.ask k a n go) =
    by_option (lowest (q.allows k) a n) (λ e. rw e (only_stores q memory (go (peek memory a n)))) (λ x e. rw e (λ h. refl))
only_stores q memory (Plan.store a bs c) = λ h. absurd (h tt)
only_stores q memory (Plan.pass t w c) =
    λ h. either (λ (x : Done). x.memory ≡ memory) (q.sends t) refl refl
only_stores q memory (Plan.end x) = λ h. refl
