-- The calls on a node that was tested.
-- Assumes nothing.
use Rattle.std.specs.Prelude.{if◌then◌else◌, Ok}
use Prim.Native.Nat.{ℕ, ◌-◌, ◌≤◌}
use mathlib.Core.Path.{◌≡◌, sym, ap, ◌∙◌}
use mathlib.Core.List.{List}
use lib.Dec.{eqb}
use lib.ListN.{length}
use Rattle.model.specs.Map.{most, Grid}
use Rattle.model.specs.Refusals.{accepts}
use Rattle.model.proofs.RefusalsLaws.{check_true, then_left, then_right, acceptable}
use Rattle.model.specs.SoundLaws.{Sound}
use Rattle.model.proofs.SoundLaws.{sound}
use Rattle.model.specs.Events.{gives, event}
use Rattle.model.specs.Calls.{Left, left, as_long, node_verdict, stepped, stepper, player, batched, batcher}
use Rattle.model.specs.declared.map.Map.{Map}
use Rattle.model.specs.declared.state.State.{State}
use Rattle.model.specs.declared.event.Answer.{Answer}
use Rattle.model.specs.declared.event.Event.{Event}
use Rattle.model.specs.Answers.{Verdict}
use Rattle.model.specs.declared.call.Played.{Played}
use Rattle.model.specs.declared.call.Ending.{Ending}
use Rattle.instructions.specs.Steps.{going, steps}
use Rattle.machine.specs.Playing.{plays}
use Rattle.machine.specs.PlayingLaws.{plays_start}
use Rattle.machine.specs.BatchLaws.{batch_of, steps_left, batch_steps}

module _ (m : Map) (g : Grid) (s : State) (memory : List ℕ) {v : Verdict} (N : v ≡ node_verdict m g s memory) where
  module _ (f : v ≡ Ok tt) where
    -- what the tests give to the functions that were spared them
    pub tested : length s.contexts ≡ most → Sound m.count s
    unfolding node_verdict
    tested n =
        let a = sym N ∙ f in
        let ok = acceptable m g (then_left (accepts m g) _ a) in
        sound ok.some ok.few n (check_true _ _ (then_right (as_long m memory) _ (then_right (accepts m g) _ a)))

    pub event_done :
        (e : Event) {a : Answer} {t : State} {memory' : List ℕ} → gives a t memory' ≡ event m g s memory e
        → left (record { reply = Ok a; state = t }) memory' ≡ stepper m g s memory e
    unfolding stepper
    event_done e d = ap (stepped (Ok tt) s memory) d ∙ rw (sym N, f)

    pub play_done :
        (bytes : List ℕ) {x : Left Played (List ℕ)} → x ≡ plays m g bytes 0 0 s memory → x ≡ player m g s memory bytes
    unfolding player
    play_done bytes d = d ∙ plays_start m g bytes s memory ∙ rw (sym N, f)

    module _ (limit : ℕ) {n : ℕ} {a : Answer} {t : State} {memory' : List ℕ}
        (d : going n a t memory' ≡ steps m g s memory Answer.Idle limit) where
      pub batch_left : n ≤ limit
      batch_left = rw (ap (λ r. r.left) d) (steps_left m g s memory Answer.Idle limit)

      pub batch_done :
          {k : ℕ} {y : Ending} → k ≡ limit - n → y ≡ (if eqb n 0 then Ending.Spent else Ending.Idle)
          → left (record { ending = Ok y; steps = k; state = t }) memory' ≡ batcher m g s memory limit
      unfolding batcher
      batch_done K Y =
          rw (K, Y) (ap (λ r. batched (Ok tt) s memory (batch_of limit r)) d
          ∙ ap (batched (Ok tt) s memory) (batch_steps m g s memory Answer.Idle limit) ∙ rw (sym N, f))
