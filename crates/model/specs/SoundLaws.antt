-- What keeps a state well formed: the words of the laws in proofs/SoundLaws.antt, and of contracts.
--     Steady                what a state of an accepted map has throughout an event
--     Sound                 what it has between events
-- Assumes nothing.
use Rattle.std.specs.Prelude.{ℕ, ◌≤◌, ◌≡◌, length}
use Rattle.model.specs.Map.{most}
use Rattle.model.specs.StatesLaws.{Led, Held}
use Rattle.model.specs.declared.state.State.{State}

-- what a state has throughout an event
pub record Steady (count : ℕ) (s : State) : Type 0 where
  pub some : 1 ≤ count
  pub few : count ≤ most
  pub long : length s.contexts ≡ most
  pub held : Held count s

-- and what it has between events
pub record Sound (count : ℕ) (s : State) : Type 0 where
  pub steady : Steady count s
  pub led : Led count s
