-- Demand 3, "Wider rights change nothing that worked": the theorems. The premise and the conclusion are in specs/Wider.antt.
--     wider       the theorem;  throughout: where there is no such fault, the two runs are equal;  from_start: for nodes just started
-- The rights occur in one definition, `carry`, so the proof is one induction over plans.
-- Assumes nothing.
use Prim.Native.Nat.{ℕ, zero, suc, ◌+◌, ◌-◌, ◌≤◌}
use Rattle.std.specs.Prelude.{◌≡◌, true, ◌⊎◌, eqb, length, set, replicate}
use Rattle.std.proofs.Math.Path.{refl, sym, ap, ap₂}
use Rattle.std.proofs.Common.{◌∙◌}
use mathlib.Core.List.{List, [], ◌∷◌}
use Rattle.std.proofs.Math.Logic.{inl, inr, ⊎_elim}
use Rattle.std.proofs.Math.Option.{none, some}
use native.Mathlib.Omega.{arith}
use borrow.Author.Tests.{eqb-false}
use Rattle.model.proofs.BasicsLaws.{by_bool, by_option}
use Rattle.model.specs.Map.{most, Grid, Rights, rights, lowest, nth}
use Rattle.model.proofs.MapLaws.{lowest_wider}
use Rattle.model.proofs.RefusalsLaws.{acceptable}
use Rattle.model.specs.Instructions.{Plan, Deed, kept, denied, peek, carry, plan}
use Rattle.model.specs.States.{own, at_entry, blank, seated, start}
use Rattle.model.specs.EventsLaws.{acts}
use Rattle.model.proofs.EventsLaws.{step_idle, step_acts, event_bound}
use Rattle.model.specs.Events.{perform, step, tick, word_in, event, then_run, run}
use Rattle.model.specs.declared.map.Map.{Map}
use Rattle.model.specs.declared.map.Access.{Access}
use Rattle.model.specs.declared.state.Reason.{Reason}
use Rattle.model.specs.declared.state.Context.{Context}
use Rattle.model.specs.declared.state.State.{State}
use Rattle.model.specs.declared.event.Event.{Event}
use Rattle.promises.specs.Wider.{Wider, permits, Parts, Agree, Never}

-- ---- one plan

permits_denied : (q : Rights) (k : Access) (a : ℕ) → permits q (denied k a) ≡ q.allows k a
permits_denied q Access.Read a = refl
permits_denied q Access.Write a = refl
permits_denied q Access.Fetch a = refl

record Broader (q r : Rights) : Type 0 where
  access : (k : Access) (a : ℕ) → q.allows k a ≡ true → r.allows k a ≡ true
  channel : (t : ℕ) → q.sends t ≡ true → r.sends t ≡ true

-- the first rights fault where the second allow
abbrev Parted : Rights → Rights → List ℕ → Plan → Type 0
Parted q r memory p = (x : Reason) × (carry q memory p ≡ kept memory (Deed.faults x)) × (permits r x ≡ true)

carry_wider :
    (q r : Rights) → Broader q r → (memory : List ℕ) (p : Plan)
    → (carry q memory p ≡ carry r memory p) ⊎ Parted q r memory p
unfolding carry
carry_wider q r w memory (Plan.ask k a n go) =
    ⊎_elim
    (λ e. by_option (lowest (q.allows k) a n)
    (λ f.
    let h : lowest (r.allows k) a n ≡ none = sym e ∙ f in
    rw (f, h) (carry_wider q r w memory (go (peek memory a n))))
    (λ x f. let h : lowest (r.allows k) a n ≡ some x = sym e ∙ f in inl (rw (f, h))))
    (λ v. inr (denied k v.0, (rw v.1), permits_denied r k v.0 ∙ v.2))
    (lowest_wider (q.allows k) (r.allows k) (w.access k) a n)
carry_wider q r w memory (Plan.store a bs c) =
    ⊎_elim (λ e. inl (rw e)) (λ v. inr (Reason.Write v.0, (rw v.1), v.2))
    (lowest_wider (q.allows Access.Write) (r.allows Access.Write) (w.access Access.Write) a (length bs))
carry_wider q r w memory (Plan.pass t x c) =
    by_bool (q.sends t) (λ e. inl (rw (e, w.channel t e)))
    (λ e. by_bool (r.sends t) (λ f. inr (Reason.Channel t, (rw e), f)) (λ f. inl (rw (e, f))))
carry_wider q r w memory (Plan.end x) = inl refl

-- ---- a run of events

module _ (m : Map) (g : Grid) (m' : Map) (g' : Grid) (w : Wider m g m' g') where
  broader : (d : ℕ) → 1 ≤ d → d ≤ m.count → Broader (rights m g d) (rights m' g' d)
  broader d l h = record { access = w.access d l h; channel = w.channel d l h }

  step_wider :
      (s : State) (memory : List ℕ) → s.active ≤ m.count
      → (step m g s memory ≡ step m' g' s memory) ⊎ Parts m g m' g' s memory Event.Step
  unfolding event perform
  step_wider s memory h =
      by_bool (eqb s.active 0)
      (λ e. inl (step_idle m g s memory e ∙ sym (step_idle m' g' s memory e)))
      (λ e.
      ⊎_elim
      (λ f. inl (step_acts m g s memory e ∙ ap₂ (λ n x. acts n s x) w.count f ∙ sym (step_acts m' g' s memory e)))
      (λ v. inr (v.0, ap (λ o. o.answer) (step_acts m g s memory e ∙ ap (acts m.count s) v.1), v.2))
      (carry_wider (rights m g s.active) (rights m' g' s.active)
      (broader s.active (omega (arith, eqb-false s.active 0 e)) h) memory (plan (own s))))

  event_wider :
      (s : State) (memory : List ℕ) (e : Event) → s.active ≤ m.count
      → (event m g s memory e ≡ event m' g' s memory e) ⊎ Parts m g m' g' s memory e
  unfolding event
  event_wider s memory Event.Step h = step_wider s memory h
  event_wider s memory Event.Tick h = inl (ap (λ n. tick n s memory) w.count)
  event_wider s memory (Event.WordIn b x) h = inl (ap (λ n. word_in n s memory b x) w.count)

  bound : (s : State) (memory : List ℕ) (e : Event) → s.active ≤ m.count → (event m g s memory e).state.active ≤ m.count
  bound s memory e h = event_bound m g s memory e (acceptable m g w.first).some h

  pub wider : (s : State) (memory : List ℕ) (es : List Event) → s.active ≤ m.count → Agree m g m' g' s memory es
  wider s memory [] h = tt
  wider s memory (e ∷ es) h =
      ⊎_elim (λ f. inl (f, wider (event m g s memory e).state (event m g s memory e).memory es (bound s memory e h))) inr
      (event_wider s memory e h)

  pub throughout :
      (s : State) (memory : List ℕ) (es : List Event) → s.active ≤ m.count → Never m g m' g' s memory es
      → run m g s memory es ≡ run m' g' s memory es
  unfolding run
  throughout s memory [] h n = refl
  throughout s memory (e ∷ es) h n =
      let o = event m g s memory e in
      ⊎_elim
      (λ f.
      ap (then_run o) (throughout o.state o.memory es (bound s memory e h) n.1)
      ∙ ap (λ x. then_run x (run m' g' x.state x.memory es)) f)
      (λ v. absurd (n.0 v))
      (event_wider s memory e h)

  -- ---- nodes just started
  seated_alike :
      (cs : List Context) (i n : ℕ) → i + n ≤ m.count → seated cs m i n ≡ seated cs m' i n
  unfolding seated
  seated_alike cs i zero h = refl
  seated_alike cs i (suc n) h =
      let z : i + 1 - 1 ≡ i = omega arith in
      let e : (nth m i).entry ≡ (nth m' i).entry =
      rw z at (w.entries (i + 1) (omega arith) (omega arith)) in
      seated_alike (set cs i (at_entry (nth m i).entry)) (i + 1) n (omega arith)
      ∙ ap (λ x. seated (set cs i (at_entry x)) m' (i + 1) n) e

  pub start_alike : start m ≡ start m'
  unfolding start
  start_alike =
      ap (λ cs. record { active = 1; contexts = cs })
      (seated_alike (replicate most blank) 0 m.count (omega arith) ∙ ap (seated (replicate most blank) m' 0) w.count)

  pub from_start : (memory : List ℕ) (es : List Event) → Agree m g m' g' (start m) memory es
  unfolding start
  from_start memory es = wider (start m) memory es (acceptable m g w.first).some
