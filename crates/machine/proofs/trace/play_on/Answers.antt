-- `machine::trace::play_on` meets its contract: the loop's invariant holds at the start and after each turn, and each way out follows from it.
use Rattle.std.specs.Prelude.{Ok}
use Prim.Native.Nat.{ℕ, ◌+◌, ◌≤◌, ◌<◌}
use mathlib.Core.Path.{◌≡◌, sym, ap, ◌∙◌, subst}
use mathlib.Core.List.{List}
use native.Mathlib.Omega.{arith}
use lib.ListN.{length, drop}
use Rattle.model.specs.Map.{Grid}
use Rattle.model.specs.SoundLaws.{Sound}
use Rattle.model.specs.Events.{Outcome, gives, event, event_read}
use Rattle.model.proofs.TraceLaws.{rest_read, rest_takes, read_takes}
use Rattle.model.specs.Calls.{left}
use Rattle.model.specs.declared.map.Map.{Map}
use Rattle.model.specs.declared.state.State.{State}
use Rattle.model.specs.declared.event.Answer.{Answer}
use Rattle.model.specs.declared.event.Event.{Event}
use Rattle.promises.specs.Kept.{each_keeps}
use Rattle.machine.specs.Playing.{closed, plays}
use Rattle.machine.specs.PlayingLaws.{plays_end, plays_broken, plays_whole}
use Rattle.machine.proofs.trace.play_on.Goals as goal

-- at the bytes from `at` on: an event, and what it makes of the node
turn :
    (bytes : List ℕ) (at : ℕ) → at < length bytes → (e : Event) (n : ℕ) → event_read (drop at bytes) ≡ Ok (e, n)
    → (m : Map) (g : Grid) (k : ℕ) (s : State) (memory : List ℕ) (a : Answer) (t : State) (memory' : List ℕ)
    → Sound m.count s → k ≤ at → gives a t memory' ≡ event m g s memory e
    → (length memory' ≡ length memory) × Sound m.count t × (k + 1 ≤ at + n)
    × (plays m g bytes (at + n) (k + 1) t memory' ≡ plays m g bytes at k s memory)
turn bytes at h e n w m g k s memory a t memory' i l f =
    let After : Outcome → Type 0 =
    λ o. (length o.memory ≡ length memory) × Sound m.count o.state × (k + 1 ≤ at + n)
    × (plays m g bytes (at + n) (k + 1) o.state o.memory ≡ plays m g bytes at k s memory) in
    let keeps = each_keeps m g s memory e i in
    let next = sym (plays_whole m g bytes at k s memory h e n w) in
    subst After (sym f) (keeps.1, keeps.0, omega (arith, (rest_takes bytes at h e n w).0), next)

pub returns-in_default : goal.returns-in_default
returns-in_default c =
    let told = c.in_default.is in
    let bytes = c.args.trace.now in
    let closes = c.broken.ensures ∙ ap (λ y. closed y c.loop-at.at) told in
    ap (λ y. left (record { close = y; events = c.loop-at.events; state = c.loop-at.state }) c.loop-at.memory) closes
    ∙ plays_broken _ _ bytes c.loop-at.at _ _ _ (omega arith) _ (rest_read bytes c.loop-at.at c.event_at_front-read.ensures ∙ told)
    ∙ c.loop-at.invariant.3

pub overflow_add-at : goal.overflow_add-at
overflow_add-at c =
    omega (arith, read_takes c.args.trace.now c.loop-at.at c.loop-at-test.true c.event_at_front-read.ensures c.in-Ok.is)

pub loop-at-smaller : goal.loop-at-smaller
loop-at-smaller c =
    omega (arith, read_takes c.args.trace.now c.loop-at.at c.loop-at-test.true c.event_at_front-read.ensures c.in-Ok.is)

pub loop-at-preserved : goal.loop-at-preserved
loop-at-preserved c =
    let inv = c.loop-at.invariant in
    let after =
    turn c.args.trace.now c.loop-at.at (omega arith) _ _
    (rest_read c.args.trace.now c.loop-at.at c.event_at_front-read.ensures ∙ c.in-Ok.is)
    _ _ _ _ _ _ _ _ inv.1 inv.2 c.happen.ensures in
    (after.0 ∙ inv.0, after.1, after.2, after.3 ∙ inv.3)

pub returns : goal.returns
returns c = plays_end _ _ _ _ _ _ _ (omega arith) ∙ c.loop-at.invariant.3
