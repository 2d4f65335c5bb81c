-- What a step does, once it is known what its instruction comes to: the word of the laws in proofs/EventsLaws.antt.
-- Assumes nothing.
use Rattle.std.specs.Prelude.{ℕ}
use Rattle.model.specs.Instructions.{Done}
use Rattle.model.specs.Events.{Outcome, perform}
use Rattle.model.specs.declared.state.State.{State}

abbrev pub acts : ℕ → State → Done → Outcome
acts count s x = perform count s x.memory x.deed
