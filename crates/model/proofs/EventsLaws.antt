-- Laws of Events: a step on an idle node and on one that is not; what a step answers; the active domain stays one of the map's, or 0.
-- Assumes nothing.
use Rattle.std.specs.Prelude.{ℕ, ◌≤◌, ◌≡◌, true, false, ◌&&◌, List, eqb}
use Rattle.model.proofs.BasicsLaws.{by_bool, either}
use Rattle.model.specs.Map.{Grid, is_domain}
use Rattle.model.proofs.MapLaws.{in_range}
use Rattle.model.proofs.SwitchLaws.{found_within}
use Rattle.model.specs.States.{full, is_waiting, context, switch}
use Rattle.model.specs.Instructions.{Deed}
use Rattle.model.specs.Events.{Outcome, gives, sent, perform, attempt, step, tick, word_in, event}
use Rattle.model.specs.declared.event.Event.{Event}
use Rattle.model.specs.declared.map.Map.{Map}
use Rattle.model.specs.declared.state.Reason.{Reason}
use Rattle.model.specs.declared.state.State.{State}
use Rattle.model.specs.declared.event.Answer.{Answer}
use Rattle.model.specs.EventsLaws.{acts}

module _ (m : Map) (g : Grid) (s : State) (memory : List ℕ) where
  pub step_idle : eqb s.active 0 ≡ true → step m g s memory ≡ gives Answer.Idle s memory
  unfolding step
  step_idle e = rw e

  pub step_acts : eqb s.active 0 ≡ false → step m g s memory ≡ acts m.count s (attempt m g s memory)
  unfolding step
  step_acts e = rw e

-- "ran d, waits d, halted d, faulted d with reason": what holds of these four for the active domain holds of a deed's answer
pub deed_answer :
    (P : Answer → Type 0) (count : ℕ) (s : State) (memory : List ℕ) (x : Deed)
    → P (Answer.Ran s.active) → P (Answer.Waits s.active) → P (Answer.Halted s.active)
    → ((r : Reason) → P (Answer.Faulted s.active r)) → P (perform count s memory x).answer
unfolding perform
deed_answer P count s memory (Deed.runs c) ran waits halted faulted = ran
deed_answer P count s memory (Deed.gives_way c) ran waits halted faulted = ran
deed_answer P count s memory Deed.waits ran waits halted faulted = waits
deed_answer P count s memory Deed.halts ran waits halted faulted = halted
deed_answer P count s memory (Deed.faults r) ran waits halted faulted = faulted r
deed_answer P count s memory (Deed.sends t w c) ran waits halted faulted = ran

-- ---- the active domain

module _ (count : ℕ) (h : 1 ≤ count) where
  switch_bound : (s : State) → (switch count s).active ≤ count
  unfolding switch
  switch_bound s = found_within count s count s.active h

  perform_bound :
      (s : State) (memory : List ℕ) (x : Deed) → s.active ≤ count → (perform count s memory x).state.active ≤ count
  unfolding perform sent
  perform_bound s memory (Deed.runs c) a = a
  perform_bound s memory (Deed.gives_way c) a = switch_bound _
  perform_bound s memory Deed.waits a = switch_bound _
  perform_bound s memory Deed.halts a = switch_bound _
  perform_bound s memory (Deed.faults r) a = switch_bound _
  perform_bound s memory (Deed.sends t w c) a = either (λ (x : State). x.active ≤ count) (full (context s t).mailbox) a a

  word_in_bound :
      (s : State) (memory : List ℕ) (b w : ℕ) → s.active ≤ count → (word_in count s memory b w).state.active ≤ count
  unfolding word_in
  word_in_bound s memory b w a =
      let P : Outcome → Type 0 = λ o. o.state.active ≤ count in
      by_bool (is_domain count b)
      (λ e. rw e (either P (full (context s b).mailbox) a
      (either (λ (x : State). x.active ≤ count) (eqb s.active 0 && is_waiting (context s b).status) (in_range count b e).1 a)))
      (λ e. rw e a)

pub event_bound :
    (m : Map) (g : Grid) (s : State) (memory : List ℕ) (e : Event) → 1 ≤ m.count → s.active ≤ m.count
    → (event m g s memory e).state.active ≤ m.count
unfolding event tick
event_bound m g s memory Event.Step h a =
    by_bool (eqb s.active 0) (λ e. rw (step_idle m g s memory e) a)
    (λ e. rw (step_acts m g s memory e) (perform_bound m.count h s _ (attempt m g s memory).deed a))
event_bound m g s memory Event.Tick h a =
    either (λ (o : Outcome). o.state.active ≤ m.count) (eqb s.active 0) a (switch_bound m.count h s)
event_bound m g s memory (Event.WordIn b w) h a = word_in_bound m.count h s memory b w a
