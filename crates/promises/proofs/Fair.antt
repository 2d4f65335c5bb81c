-- Fairness in Case L: the premises of `fair` can be met.
-- Assumes nothing.
use Rattle.std.specs.Prelude.{refl, [], ◌∷◌}
use Rattle.std.proofs.Common.{arith}
use Rattle.model.specs.States.{start}
use Rattle.model.specs.Whole.{whole}
use Rattle.model.specs.declared.event.Event.{Event}
use Rattle.promises.specs.CaseL.{L_map, L_grid, L_memory, L_well_formed}
use Rattle.promises.specs.Fair.{deed_switches, event_switches, run_switches, Meets, fair}

-- Case L meets the premises: domain 1 runs, then faults and switches, and domain 2 is ready all the while
pub L_fair : Meets L_map L_grid 2 (start L_map) L_memory (Event.Step ∷ Event.Step ∷ [])
unfolding whole deed_switches event_switches run_switches
L_fair =
    fair L_map L_grid 2 (start L_map) L_memory (Event.Step ∷ Event.Step ∷ []) L_well_formed (omega arith) (omega arith)
    (refl, (refl, refl)) (omega arith)
