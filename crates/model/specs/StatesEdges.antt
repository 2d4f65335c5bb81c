-- The definitions of States at both sides of an edge, by computation: a wrong definition shows here as a wrong value.
-- Assumes nothing.
use Rattle.std.specs.Prelude.{ℕ, ◌≡◌, refl, true, false, List, [], ◌∷◌, map, replicate}
use Rattle.model.specs.States.{blank, with_status, woken, switch, well_formed, any_ready, active_good, box_good, context_good, zeros, is_blank, contexts_good, first_ready}
use Rattle.model.specs.declared.state.Status.{Status}
use Rattle.model.specs.declared.state.State.{State}

-- ---- states: eight statuses, domain d active

abbrev state : ℕ → List Status → State
state d xs = record { active = d; contexts = map (with_status blank) xs }

abbrev then_halted : Status → Status → Status → List Status
then_halted a b c = a ∷ b ∷ c ∷ replicate 5 Status.Halted

-- the next, past one that is not ready, going round, itself, nobody
switch_edges :
    map (λ s. (switch 3 s).active)
    (state 1 (then_halted Status.Ready Status.Ready Status.Ready)
    ∷ state 1 (then_halted Status.Ready Status.Waiting Status.Ready)
    ∷ state 3 (then_halted Status.Ready Status.Ready Status.Ready)
    ∷ state 2 (then_halted Status.Halted Status.Ready Status.Halted)
    ∷ state 2 (then_halted Status.Halted Status.Waiting Status.Halted) ∷ [])
    ≡ 2 ∷ 3 ∷ 1 ∷ 2 ∷ 0 ∷ []
unfolding first_ready switch
switch_edges = refl

-- active and ready; active and not ready; idle and somebody ready; idle and nobody; a context past the count that is not halted
well_formed_edges :
    map (well_formed 2)
    (state 2 (then_halted Status.Waiting Status.Ready Status.Halted)
    ∷ state 1 (then_halted Status.Waiting Status.Ready Status.Halted)
    ∷ state 0 (then_halted Status.Waiting Status.Ready Status.Halted)
    ∷ state 0 (then_halted Status.Waiting Status.Halted Status.Halted)
    ∷ state 1 (then_halted Status.Ready Status.Ready Status.Ready) ∷ [])
    ≡ true ∷ false ∷ false ∷ true ∷ false ∷ []
unfolding any_ready active_good box_good context_good zeros is_blank contexts_good well_formed
well_formed_edges = refl

-- a word wakes a waiting domain alone
woken_edges :
    map woken (Status.Halted ∷ Status.Ready ∷ Status.Waiting ∷ []) ≡ Status.Halted ∷ Status.Ready ∷ Status.Ready ∷ []
woken_edges = refl
