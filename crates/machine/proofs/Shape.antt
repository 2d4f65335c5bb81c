-- What its type says of a state: eight contexts.
-- Assumes nothing.
use mathlib.Core.Path.{◌≡◌}
use mathlib.Core.List.{List}
use lib.ListN.{length}
use mir.Val.{Val}
use denote.Laws.{Is}
use denote.Struct.Declared.{row}
use Rattle.model.specs.Map.{most}
use Rattle.model.specs.declared.state.State.{State}
use Rattle.model.specs.contracts.state.State as stored

pub eight : (s : State) (vs : List Val) → Is (row stored.the_type) s vs → length s.contexts ≡ most
eight s vs p = p.1.1.1.0.1.0.1
