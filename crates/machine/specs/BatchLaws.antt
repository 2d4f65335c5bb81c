-- A step and a batch, by `steps`.
-- Assumes nothing.
use Prim.Native.Nat.{ℕ, zero, suc, ◌+◌, ◌-◌, ◌≤◌}
use Rattle.std.specs.Prelude.{◌≡◌, List, eqb, if◌then◌else◌}
use Rattle.std.proofs.Math.Path.{refl}
use Rattle.std.proofs.Common.{ap}
use native.Mathlib.Omega.{arith}
use borrow.Author.Tests.{ne_eqb}
use Rattle.model.proofs.BasicsLaws.{by_bool}
use Rattle.model.specs.Map.{Grid}
use Rattle.model.specs.Events.{Outcome, gives, step, Batch, one_more, batch}
use Rattle.model.proofs.EventsLaws.{step_idle}
use Rattle.model.specs.declared.map.Map.{Map}
use Rattle.model.specs.declared.state.State.{State}
use Rattle.model.specs.declared.event.Answer.{Answer}
use Rattle.model.specs.declared.call.Ending.{Ending}
use Rattle.instructions.specs.Steps.{Going, steps}

abbrev pub outcome_of : Going → Outcome
outcome_of r = gives r.answer r.state r.memory

-- "how many steps were not idle, and "spent" if that equals the limit, else "idle"": as many as were not left
abbrev pub batch_of : ℕ → Going → Batch
batch_of limit r =
    record {
      steps = limit - r.left;
      ending = if eqb r.left 0 then Ending.Spent else Ending.Idle;
      state = r.state;
      memory = r.memory;
    }

module _ (m : Map) (g : Grid) where
  pub step_steps : (s : State) (memory : List ℕ) → outcome_of (steps m g s memory Answer.Idle 1) ≡ step m g s memory
  unfolding steps
  step_steps s memory = by_bool (eqb s.active 0) (λ e. rw (e, step_idle m g s memory e)) (λ e. rw e)

  pub steps_left : (s : State) (memory : List ℕ) (a : Answer) (limit : ℕ) → (steps m g s memory a limit).left ≤ limit
  unfolding steps
  steps_left s memory a zero = omega arith
  steps_left s memory a (suc n) =
      let o = step m g s memory in
      by_bool (eqb s.active 0) (λ e. rw e (omega arith))
      (λ e. rw e (omega (arith, steps_left o.state o.memory o.answer n)))

  pub batch_steps :
      (s : State) (memory : List ℕ) (a : Answer) (limit : ℕ) → batch_of limit (steps m g s memory a limit) ≡ batch m g s memory limit
  unfolding steps batch
  batch_steps s memory a zero = refl
  batch_steps s memory a (suc n) =
      let o = step m g s memory in
      let r = steps m g o.state o.memory o.answer n in
      let none : suc n - suc n ≡ 0 = omega arith in
      let more : suc n - r.left ≡ n - r.left + 1 = omega (arith, steps_left o.state o.memory o.answer n) in
      by_bool (eqb s.active 0) (λ e. rw (e, none, ne_eqb (suc n) 0 (omega arith)))
      (λ e. rw (e, more) (ap one_more (batch_steps o.state o.memory o.answer n)))
