-- A batch is the definition's steps: "it reports how many steps were not idle, and "spent" if that equals the limit, else "idle"".
--     batch_counts     its number is the count of the steps that were not idle, among as many steps as the limit, and its state and
--                      memory are those after them
--     batch_ends       spent exactly if the number is the limit
-- Assumes nothing.
use Prim.Native.Nat.{ℕ, zero, suc, ◌+◌}
use Rattle.std.specs.Prelude.{◌≡◌, Bool, true, List, [], ◌∷◌, eqb, replicate, if◌then◌else◌}
use Rattle.std.proofs.Math.Path.{refl, sym, ap}
use Rattle.std.proofs.Common.{◌∙◌}
use Rattle.std.proofs.Math.Bool.{false}
use Rattle.std.proofs.Math.Numerals.{add-one}
use Rattle.std.proofs.Math.Dec.{eqb-zero-suc, eqb-suc-suc}
use Rattle.model.proofs.BasicsLaws.{by_bool}
use Rattle.model.specs.Map.{Grid}
use Rattle.model.specs.Events.{attempt, step, event, run, batch}
use Rattle.model.proofs.EventsLaws.{step_idle, step_acts, deed_answer}
use Rattle.model.specs.declared.map.Map.{Map}
use Rattle.model.specs.declared.state.State.{State}
use Rattle.model.specs.declared.event.Event.{Event}
use Rattle.model.specs.declared.event.Answer.{Answer}
use Rattle.model.specs.declared.call.Ending.{Ending}

abbrev pub is_idle : Answer → Bool
is_idle Answer.Idle = true
is_idle (Answer.Ran d) = false
is_idle (Answer.Waits d) = false
is_idle (Answer.Halted d) = false
is_idle (Answer.Faulted d r) = false
is_idle (Answer.Switched d) = false
is_idle (Answer.Taken d) = false
is_idle (Answer.Full d) = false
is_idle (Answer.NoDomain d) = false

-- how many answers are not idle
unfoldable pub busy : List Answer → ℕ
busy [] = 0
busy (a ∷ rest) = if is_idle a then busy rest else busy rest + 1

abbrev pub steps : ℕ → List Event
steps limit = replicate limit Event.Step

module _ (m : Map) (g : Grid) where
  abbrev Counts : State → List ℕ → ℕ → Type 0
  Counts s memory limit =
      ((batch m g s memory limit).steps ≡ busy (run m g s memory (steps limit)).answers)
      × ((batch m g s memory limit).state ≡ (run m g s memory (steps limit)).state)
      × ((batch m g s memory limit).memory ≡ (run m g s memory (steps limit)).memory)

  -- an idle node stays as it is
  idle_run :
      (s : State) (memory : List ℕ) (n : ℕ) → eqb s.active 0 ≡ true
      → (busy (run m g s memory (steps n)).answers ≡ 0)
      × ((run m g s memory (steps n)).state ≡ s) × ((run m g s memory (steps n)).memory ≡ memory)
  unfolding run event busy
  idle_run s memory zero e = (refl, refl, refl)
  idle_run s memory (suc n) e = rw (step_idle m g s memory e) (idle_run s memory n e)

  pub batch_counts : (s : State) (memory : List ℕ) (limit : ℕ) → Counts s memory limit
  unfolding batch run event busy
  batch_counts s memory zero = (refl, refl, refl)
  batch_counts s memory (suc n) =
      by_bool (eqb s.active 0)
      (λ e. let i = idle_run s memory n e in rw (e, step_idle m g s memory e) (sym i.0, sym i.1, sym i.2))
      (λ e.
      let o = step m g s memory in
      let rest = batch_counts o.state o.memory n in
      let b : is_idle o.answer ≡ false =
      ap (λ x. is_idle x.answer) (step_acts m g s memory e)
      ∙ deed_answer (λ a. is_idle a ≡ false) m.count s _ (attempt m g s memory).deed refl refl refl (λ r. refl) in
      rw (e, b) (ap (λ k. k + 1) rest.0, rest.1, rest.2))

  pub batch_ends :
      (s : State) (memory : List ℕ) (limit : ℕ)
      → (batch m g s memory limit).ending ≡ (if eqb (batch m g s memory limit).steps limit then Ending.Spent else Ending.Idle)
  unfolding batch
  batch_ends s memory zero = refl
  batch_ends s memory (suc n) =
      by_bool (eqb s.active 0)
      (λ e. rw (e, eqb-zero-suc n))
      (λ e.
      let o = step m g s memory in
      rw (e, add-one (batch m g o.state o.memory n).steps, eqb-suc-suc (batch m g o.state o.memory n).steps n)
      (batch_ends o.state o.memory n))
