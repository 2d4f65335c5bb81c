-- A node that was accepted and is between two events of its trace: what the next event, and a broken record make of what is told.
--     starts, turns, stops
-- Assumes nothing.
use Rattle.std.specs.Prelude.{ℕ, ◌+◌, ◌<◌, ◌≡◌, List, length, drop, Ok, Err}
use Rattle.std.proofs.Common.{sym, ◌∙◌, eq-eqb}
use Rattle.std.proofs.Math.Path.{ap, subst}
use Rattle.model.specs.Map.{Grid}
use Rattle.model.specs.Refusals.{check, accepts}
use Rattle.model.proofs.RefusalsLaws.{then_both, check_both, acceptable}
use Rattle.model.specs.States.{start}
use Rattle.model.specs.SoundLaws.{Sound}
use Rattle.model.proofs.SoundLaws.{sound_formed, start_sound}
use Rattle.model.specs.Events.{event, event_read}
use Rattle.model.specs.Calls.{Left, left, node_verdict, started, starter, stepped, stepper}
use Rattle.model.specs.Program.{active_line}
use Rattle.model.specs.declared.map.Map.{Map}
use Rattle.model.specs.declared.state.State.{State}
use Rattle.model.specs.declared.event.Event.{Event}
use Rattle.model.specs.Answers.{EventRead}
use Rattle.model.specs.declared.refusal.Refusal.{Refusal}
use Rattle.model.specs.declared.call.Started.{Started}
use Rattle.model.specs.declared.call.Stepped.{Stepped}
use Rattle.promises.specs.Kept.{each_keeps}
use Rattle.lines.specs.Puts.{Place, puts}
use Rattle.lines.specs.Telling.{reply_line, broken_line, tells}
use Rattle.lines.specs.TellingLaws.{tells_broken, tells_whole}

module _ (m : Map) (g : Grid) (a : accepts m g ≡ Ok tt) where
  pub starts : {r : Started} → r ≡ starter m g → (r.state ≡ start m) × Sound m.count r.state
  unfolding starter
  starts {r} q =
      let ok = acceptable m g a in
      let e : r.state ≡ start m = ap (λ x. x.state) (q ∙ ap (λ v. started v (start m)) a) in
      (e, subst (Sound m.count) (sym e) (start_sound m ok.some ok.few))

  module _ (s : State) (memory : List ℕ) (long : length memory ≡ m.length) (i : Sound m.count s) where
    node_stands : node_verdict m g s memory ≡ Ok tt
    unfolding node_verdict
    node_stands =
        then_both a (check_both Refusal.Memory (eq-eqb _ _ long) (ap (λ b. check b Refusal.Malformed) (sound_formed i)))

    answered :
        (e : Event) {r : Stepped} {memory' : List ℕ} → left r memory' ≡ stepper m g s memory e
        → left r memory' ≡ stepped (Ok tt) s memory (event m g s memory e)
    unfolding stepper
    answered e q = q ∙ ap (λ v. stepped v s memory (event m g s memory e)) node_stands

    module _ (bytes : List ℕ) (at n : ℕ) (x : Place) (h : at < length bytes) where
      pub turns :
          (e : Event) (k : ℕ) → event_read (drop at bytes) ≡ Ok (e, k) → {r : Stepped} {memory' : List ℕ} {y : Place}
          → left r memory' ≡ stepper m g s memory e → y ≡ puts x (reply_line (n + 1) r.reply)
          → (length memory' ≡ m.length) × Sound m.count r.state
          × (tells m g bytes (at + k) (n + 1) y r.state memory' ≡ tells m g bytes at n x s memory)
      turns e k w {r} {memory'} {y} q =
          let After : Left Stepped (List ℕ) → Type 0 =
          λ l. y ≡ puts x (reply_line (n + 1) l.value.reply)
          → (length l.lent ≡ m.length) × Sound m.count l.value.state
          × (tells m g bytes (at + k) (n + 1) y l.value.state l.lent ≡ tells m g bytes at n x s memory) in
          let o = event m g s memory e in
          let keeps = each_keeps m g s memory e i in
          subst After (sym (answered e q))
          (λ z. (
            keeps.1 ∙ long,
            keeps.0,
            ap (λ p. tells m g bytes (at + k) (n + 1) p o.state o.memory) z ∙ sym (tells_whole m g bytes at n x s memory h e k w),
          ))

      pub stops :
          (r : Refusal) {read : EventRead} → read ≡ Err r → event_read (drop at bytes) ≡ read → {y z : Place}
          → y ≡ puts x (broken_line read at) → z ≡ puts y (active_line s.active)
          → left z memory ≡ tells m g bytes at n x s memory
      stops r w q e f =
          ap (λ p. left p memory) (f ∙ ap (λ p. puts p (active_line s.active)) (e ∙ ap (λ p. puts x (broken_line p at)) w))
          ∙ tells_broken m g bytes at n x s memory h r (q ∙ w)
