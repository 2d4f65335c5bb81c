-- Laws of Playing: how a trace is gone through.
--     plays_start, plays_end, plays_broken, plays_whole
-- Assumes nothing.
use Prim.Native.Nat.{ℕ, suc, ◌+◌, ◌≤◌, ◌<◌}
use Rattle.std.specs.Prelude.{◌≡◌, List, drop, Ok, Err}
use Rattle.std.proofs.Math.Path.{sym, ap}
use Rattle.std.proofs.Common.{◌∙◌, add-zero, zero-add}
use native.Mathlib.Omega.{arith}
use Rattle.std.proofs.Math.ListN.{length}
use Rattle.model.specs.Map.{Grid}
use Rattle.model.specs.Events.{Trace, event, run, event_read, trace_of}
use Rattle.model.proofs.TraceLaws.{rest_end, rest_broken, rest_whole}
use Rattle.model.specs.Calls.{Left, left, played}
use Rattle.model.specs.declared.map.Map.{Map}
use Rattle.model.specs.declared.state.State.{State}
use Rattle.model.specs.declared.event.Event.{Event}
use Rattle.model.specs.declared.call.Stop.{Stop}
use Rattle.model.specs.Answers.{refused_at}
use Rattle.model.specs.declared.refusal.Refusal.{Refusal}
use Rattle.model.specs.declared.call.Played.{Played}
use Rattle.machine.specs.Playing.{plays}

module _ (m : Map) (g : Grid) (bytes : List ℕ) where
  abbrev over : Trace → ℕ → State → List ℕ → Left Played (List ℕ)
  over t k s memory =
      let r = run m g s memory t.events in
      left (record { close = t.close; events = k + length t.events; state = r.state }) r.memory

  pub plays_start :
      (s : State) (memory : List ℕ) → let t = trace_of 0 bytes in
      plays m g bytes 0 0 s memory ≡ played (Ok tt) s memory t (run m g s memory t.events)
  unfolding plays
  plays_start s memory =
      let t = trace_of 0 bytes in
      let r = run m g s memory t.events in
      ap (λ n. left (record { close = t.close; events = n; state = r.state }) r.memory) (zero-add (length t.events))

  module _ (at k : ℕ) (s : State) (memory : List ℕ) where
    pub plays_end :
        length bytes ≤ at → left (record { close = Ok tt; events = k; state = s }) memory ≡ plays m g bytes at k s memory
    unfolding plays run
    plays_end h =
        sym (ap (λ t. over t k s memory) (rest_end bytes at h)
        ∙ ap (λ n. left (record { close = Ok tt; events = n; state = s }) memory) (add-zero k))

    module _ (h : at < length bytes) where
      pub plays_broken :
          (r : Refusal) → event_read (drop at bytes) ≡ Err r
          → left (record { close = Err (Stop.Broken (refused_at r at)); events = k; state = s }) memory ≡ plays m g bytes at k s memory
      unfolding plays run
      plays_broken r e =
          sym (ap (λ t. over t k s memory) (rest_broken bytes at h r e)
          ∙ ap (λ n. left (record { close = Err (Stop.Broken (refused_at r at)); events = n; state = s }) memory) (add-zero k))

      pub plays_whole :
          (e : Event) (n : ℕ) → event_read (drop at bytes) ≡ Ok (e, n)
          → let o = event m g s memory e in
          plays m g bytes at k s memory ≡ plays m g bytes (at + n) (k + 1) o.state o.memory
      unfolding plays run
      plays_whole e n w =
          let o = event m g s memory e in
          let t = trace_of (at + n) (drop (at + n) bytes) in
          let count : k + suc (length t.events) ≡ k + 1 + length t.events = omega arith in
          let r = run m g o.state o.memory t.events in
          ap (λ x. over x k s memory) (rest_whole bytes at h e n w)
          ∙ ap (λ j. left (record { close = t.close; events = j; state = r.state }) r.memory) count
