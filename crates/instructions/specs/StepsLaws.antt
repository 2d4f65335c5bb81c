-- Laws of Steps.
--     keeps                         registers that stay keep, however it went
--     steps_acts                    a step that is done, whatever the answer before
--     Reaches                       how far a stretch has come: the steps are those from there
--     reaches_start, -more, -stops, -spent   it has come nowhere; one instruction further; its ends
-- Assumes nothing.
use Rattle.std.specs.Prelude.{◌≡◌, ℕ, suc, ◌-◌, ◌<◌, ◌≤◌, Bool, false, List, nat_eq, refl}
use Rattle.std.proofs.Common.{sym, subst, ◌∙◌, set-set, ne_eqb}
use Rattle.std.proofs.Math.Path.{ap}
use native.Mathlib.Omega.{arith}
use Rattle.std.proofs.lemmas.List.{set-get_or}
use Rattle.model.specs.Map.{Grid, granted, rights}
use Rattle.model.specs.States.{empty_box, missing, own}
use Rattle.model.proofs.StatesLaws.{context_same}
use Rattle.model.specs.Instructions.{plan, kept, carry}
use Rattle.model.specs.InstructionsLaws.{Fits}
use Rattle.model.proofs.InstructionsLaws.{carry_each, plan_fits}
use Rattle.model.specs.Events.{attempt, perform}
use Rattle.model.specs.EventsLaws.{acts}
use Rattle.model.proofs.EventsLaws.{step_acts}
use Rattle.model.specs.declared.map.Domain.{Domain}
use Rattle.model.specs.declared.map.Map.{Map}
use Rattle.model.specs.declared.state.Status.{Status}
use Rattle.model.specs.declared.state.Context.{Context}
use Rattle.model.specs.declared.state.State.{State}
use Rattle.model.specs.declared.event.Answer.{Answer}
use Rattle.instructions.specs.Told.{held, seen, loaded, deed, Keeps, Tells}
use Rattle.instructions.specs.Steps.{Going, steps, onward, come, Stands, Granted, Stretches}
use Rattle.instructions.specs.declared.went.Went.{Went}

keeps : (w : Went) (rs : List ℕ) → Keeps w rs rs
keeps (Went.Moved n) rs = tt
keeps (Went.Sends t w n) rs = refl
keeps (Went.Receives r s n) rs = refl
keeps (Went.Yields n) rs = refl
keeps Went.Halts rs = refl
keeps (Went.Faults x) rs = refl

abbrev with_contexts : State → List Context → State
with_contexts s cs = record { active = s.active; contexts = cs }

pub steps_acts :
    (m : Map) (g : Grid) (s : State) (memory : List ℕ) (a : Answer) (n : ℕ) → 1 ≤ s.active
    → steps m g s memory a (suc n) ≡ onward m g (acts m.count s (attempt m g s memory)) n
unfolding steps
steps_acts m g s memory a n h =
    let busy : nat_eq s.active 0 ≡ false = ne_eqb s.active 0 (omega arith) in rw (busy, step_acts m g s memory busy)

-- ---- a stretch, among the steps of a node where its domain is active

held_same :
    {a b : Domain} {c d : ℕ} {x y : List Bool} → a ≡ b → c ≡ d → x ≡ y → held a c x ≡ held b d y
held_same e f h = rw (e, f, h)

module _ (part : Domain) (count : ℕ) (row : List Bool) (rs₀ : List ℕ) (n₀ : ℕ) where
  module _ (m : Map) (g : Grid) (s : State) (h : Stands part count row rs₀ n₀ m g s) where
    come_own : (rs : List ℕ) (n : ℕ) → own (come s rs n) ≡ loaded (own s) rs n
    come_own rs n = context_same s s.active _ h.some h.there

    rights_held : rights m g s.active ≡ held part count row
    unfolding granted
    rights_held = held_same h.part h.counted h.marks

    attempt_told :
        (rs : List ℕ) (n : ℕ) (memory : List ℕ) (x : Went) (rs' memory' : List ℕ)
        → Tells (held part count row) plan rs n memory x rs' memory'
        → attempt m g (come s rs n) memory ≡ kept memory' (deed (loaded (own s) rs n) rs' x)
    attempt_told rs n memory x rs' memory' t =
        ap (λ c. carry (rights m g s.active) memory (plan c)) (come_own rs n)
        ∙ ap (λ q. carry q memory (plan (loaded (own s) rs n))) rights_held
        ∙ t.0 (own s).status (own s).mailbox

    -- a step from where the stretch has come to
    step_told :
        (rs : List ℕ) (n : ℕ) (memory : List ℕ) (k : ℕ) (x : Went) (rs' memory' : List ℕ)
        → Tells (held part count row) plan rs n memory x rs' memory'
        → steps m g (come s rs n) memory (Answer.Ran s.active) (suc k)
        ≡ onward m g (acts m.count (come s rs n) (kept memory' (deed (loaded (own s) rs n) rs' x))) k
    step_told rs n memory k x rs' memory' t =
        steps_acts m g (come s rs n) memory _ k h.some
        ∙ ap (λ d. onward m g (acts m.count (come s rs n) d) k) (attempt_told rs n memory x rs' memory' t)

  -- a send that is told is granted
  told_granted :
      (x : Went) (rs : List ℕ) (n : ℕ) (memory rs' memory' : List ℕ)
      → Tells (held part count row) plan rs n memory x rs' memory' → Granted count row x
  told_granted (Went.Moved k) rs n memory rs' memory' t = tt
  told_granted (Went.Sends to w k) rs n memory rs' memory' t =
      let q = held part count row in
      let c = seen rs n Status.Ready empty_box in
      let fits = carry_each (Fits q c) q (λ r e. e) memory (plan c) (plan_fits q c) in
      (subst (λ x. Fits q c x.deed) (t.0 Status.Ready empty_box) fits).0
  told_granted (Went.Receives r s k) rs n memory rs' memory' t = tt
  told_granted (Went.Yields k) rs n memory rs' memory' t = tt
  told_granted Went.Halts rs n memory rs' memory' t = tt
  told_granted (Went.Faults x) rs n memory rs' memory' t = tt

  -- the registers that the domain is left with are those that it came with, or the instruction sets them all
  module _ (m : Map) (g : Grid) (s : State) (rs : List ℕ) (n : ℕ) (rs' memory' : List ℕ) (left : ℕ) where
    abbrev after : List ℕ → Went → Going
    after r x = onward m g (acts m.count (come s r n) (kept memory' (deed (loaded (own s) r n) rs' x))) left

    stopped : (x : Went) → Keeps x rs rs' → after rs x ≡ after rs' x
    unfolding perform
    stopped (Went.Moved k) t =
        let set = λ (cs : List Context). steps m g (with_contexts s cs) memory' (Answer.Ran s.active) left in
        ap set (set-set s.contexts (s.active - 1) _ _) ∙ sym (ap set (set-set s.contexts (s.active - 1) _ _))
    stopped (Went.Sends t w k) e = ap (λ r. after r (Went.Sends t w k)) (sym e)
    stopped (Went.Receives r x k) e = ap (λ l. after l (Went.Receives r x k)) (sym e)
    stopped (Went.Yields k) e = ap (λ r. after r (Went.Yields k)) (sym e)
    stopped Went.Halts e = ap (λ r. after r Went.Halts) (sym e)
    stopped (Went.Faults x) e = ap (λ r. after r (Went.Faults x)) (sym e)

  -- the steps from where the stretch began are those from where it has come to, with `left` left of the limit
  abbrev pub Reaches : List ℕ → ℕ → List ℕ → ℕ → List ℕ → ℕ → Type 0
  Reaches memory₀ limit rs n memory left =
      (m : Map) (g : Grid) (s : State) → Stands part count row rs₀ n₀ m g s
      → steps m g s memory₀ (Answer.Ran s.active) limit ≡ steps m g (come s rs n) memory (Answer.Ran s.active) left

  module _ (memory₀ : List ℕ) (limit : ℕ) where
    pub reaches_start : Reaches memory₀ limit rs₀ n₀ memory₀ limit
    reaches_start m g s h =
        let there : come s rs₀ n₀ ≡ s =
        rw (← h.registers, ← h.counter) (ap (with_contexts s) (set-get_or s.contexts (s.active - 1) missing)) in
        rw there

    module _ (rs : List ℕ) (n : ℕ) (memory : List ℕ) (left : ℕ) (f : Reaches memory₀ limit rs n memory left) where
      pub reaches_more :
          (next : ℕ) (rs' memory' : List ℕ) → 0 < left
          → Tells (held part count row) plan rs n memory (Went.Moved next) rs' memory'
          → Reaches memory₀ limit rs' next memory' (left - 1)
      unfolding perform
      reaches_more next rs' memory' l t m g s h =
          let more : suc (left - 1) ≡ left = omega arith in
          f m g s h
          ∙ ap (steps m g (come s rs n) memory (Answer.Ran s.active)) (sym more)
          ∙ step_told m g s h rs n memory (left - 1) (Went.Moved next) rs' memory' t
          ∙ ap (λ cs. steps m g (with_contexts s cs) memory' (Answer.Ran s.active) (left - 1))
          (set-set s.contexts (s.active - 1) _ _)

      pub reaches_stops :
          (x : Went) (rs' memory' : List ℕ) → 0 < left → left ≤ limit → Tells (held part count row) plan rs n memory x rs' memory'
          → Stretches part count row rs₀ n₀ memory₀ limit (record { left = left - 1; counter = n; went = x }) rs' memory'
      reaches_stops x rs' memory' l k t = (
        λ m g s h.
            let more : suc (left - 1) ≡ left = omega arith in
            f m g s h
            ∙ ap (steps m g (come s rs n) memory (Answer.Ran s.active)) (sym more)
            ∙ step_told m g s h rs n memory (left - 1) x rs' memory' t
            ∙ stopped m g s rs n rs' memory' (left - 1) x t.1,
        told_granted x rs n memory rs' memory' t,
        λ _. omega arith,
      )

    pub reaches_spent :
        (rs : List ℕ) (n : ℕ) (memory : List ℕ) → Reaches memory₀ limit rs n memory 0
        → Stretches part count row rs₀ n₀ memory₀ limit (record { left = 0; counter = n; went = Went.Moved n }) rs memory
    unfolding perform
    reaches_spent rs n memory f = (
      λ m g s h.
          f m g s h
          ∙ ap (λ cs. steps m g (with_contexts s cs) memory (Answer.Ran s.active) 0)
          (sym (set-set s.contexts (s.active - 1) _ _)),
      tt,
      λ l. l,
    )
