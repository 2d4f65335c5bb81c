-- Laws of Telling: how a trace is gone through.
--     tells_start, tells_end, tells_broken, tells_whole
-- Assumes nothing.
use Rattle.std.specs.Prelude.{ℕ, ◌+◌, ◌≤◌, ◌<◌, ◌≡◌, List, ◌++◌, length, drop, Ok, Err}
use Rattle.std.proofs.Math.Path.{refl, sym, ap}
use Rattle.std.proofs.Common.{◌∙◌, append_assoc}
use Rattle.model.specs.Map.{Grid}
use Rattle.model.specs.States.{start}
use Rattle.model.specs.Events.{Trace, event, run, event_read, trace_of}
use Rattle.model.proofs.TraceLaws.{rest_end, rest_broken, rest_whole}
use Rattle.model.specs.Calls.{Left, left}
use Rattle.model.specs.Program.{event_line, event_lines, active_line, refusal_at_line, close_line, of_run, of_trace}
use Rattle.model.specs.declared.map.Map.{Map}
use Rattle.model.specs.declared.state.State.{State}
use Rattle.model.specs.declared.event.Event.{Event}
use Rattle.model.specs.declared.refusal.Refusal.{Refusal}
use Rattle.lines.specs.Puts.{Place, puts}
use Rattle.lines.specs.PutsLaws.{puts_append}
use Rattle.lines.specs.Telling.{told, tells}

module _ (m : Map) (g : Grid) (bytes : List ℕ) where
  abbrev over : Trace → ℕ → Place → State → List ℕ → Left Place (List ℕ)
  over t n x s memory = told (of_run n t (run m g s memory t.events)) x

  pub tells_start : (x : Place) (memory : List ℕ) → tells m g bytes 0 0 x (start m) memory ≡ told (of_trace m g memory bytes) x
  unfolding tells of_trace
  tells_start x memory = refl

  module _ (at n : ℕ) (x : Place) (s : State) (memory : List ℕ) where
    pub tells_end :
        length bytes ≤ at → left (puts x (active_line s.active)) memory ≡ tells m g bytes at n x s memory
    unfolding tells run event_lines
    tells_end h = sym (ap (λ t. over t n x s memory) (rest_end bytes at h))

    module _ (h : at < length bytes) where
      pub tells_broken :
          (r : Refusal) → event_read (drop at bytes) ≡ Err r
          → left (puts (puts x (refusal_at_line r at)) (active_line s.active)) memory ≡ tells m g bytes at n x s memory
      unfolding tells run event_lines
      tells_broken r e =
          ap (λ y. left y memory) (sym (puts_append x (refusal_at_line r at) (active_line s.active)))
          ∙ sym (ap (λ t. over t n x s memory) (rest_broken bytes at h r e))

      pub tells_whole :
          (e : Event) (k : ℕ) → event_read (drop at bytes) ≡ Ok (e, k)
          → let o = event m g s memory e in
          tells m g bytes at n x s memory ≡ tells m g bytes (at + k) (n + 1) (puts x (event_line (n + 1) o.answer)) o.state o.memory
      unfolding tells run event_lines
      tells_whole e k w =
          let o = event m g s memory e in
          let t = trace_of (at + k) (drop (at + k) bytes) in
          let r = run m g o.state o.memory t.events in
          let line = event_line (n + 1) o.answer in
          let last = close_line t.close ++ active_line r.state.active in
          ap (λ y. over y n x s memory) (rest_whole bytes at h e k w)
          ∙ ap (λ y. left (puts x y) r.memory) (append_assoc line (event_lines (n + 1) r.answers) last)
          ∙ ap (λ y. left y r.memory) (puts_append x line (event_lines (n + 1) r.answers ++ last))
