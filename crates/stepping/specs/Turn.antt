-- A turn of the loop over steps: what an ending stretch may ask of the state.
-- Assumes nothing.
use Rattle.std.specs.Prelude.{◌≡◌, ℕ, true}
use Rattle.model.specs.Map.{is_domain}
use Rattle.instructions.specs.declared.went.Went.{Went}

-- a word is sent to one of the domains
abbrev pub Reaches : ℕ → Went → Type 0
Reaches count (Went.Moved n) = Unit {0}
Reaches count (Went.Sends t w n) = is_domain count t ≡ true
Reaches count (Went.Receives r s n) = Unit {0}
Reaches count (Went.Yields n) = Unit {0}
Reaches count Went.Halts = Unit {0}
Reaches count (Went.Faults x) = Unit {0}
