-- Document 01, "The program": Case L, its map, grid, memory and trace as values.
-- Assumes nothing.
use Rattle.std.specs.Prelude.{ℕ, ◌≡◌, refl, true, List, [], ◌∷◌, length, replicate, Ok}
use Rattle.std.proofs.lemmas.List.Edits.{sets}
use Rattle.model.specs.Map.{region, absent, no_grid, Grid}
use Rattle.model.specs.Refusals.{accepts}
use Rattle.model.specs.Sheet.{Found, mark, sheet_bytes, sheet_read}
use Rattle.model.specs.States.{start, well_formed}
use Rattle.model.specs.Events.{trace_of, run}
use Rattle.model.specs.Whole.{whole}
use Rattle.model.specs.declared.map.Domain.{Domain}
use Rattle.model.specs.declared.map.Map.{Map}
use Rattle.model.specs.declared.state.Reason.{Reason}
use Rattle.model.specs.declared.event.Answer.{Answer}

abbrev pub one : Domain
one = record { code = region 32 64; «data» = region 64 96; entry = 32 }

abbrev pub two : Domain
two = record { code = region 96 128; «data» = region 128 160; entry = 96 }

abbrev pub L_map : Map
L_map = record { length = 256; kernel = region 0 32; count = 2; domains = one ∷ two ∷ replicate 6 absent }

-- "channel 1 to 2"
abbrev pub L_grid : Grid
L_grid = mark no_grid 1 2

-- "Memory is zero but for 32: .. and 96: .."
abbrev pub L_memory : List ℕ
L_memory =
    sets (sets (replicate 256 0) 32 (1 ∷ 1 ∷ 128 ∷ 0 ∷ 0 ∷ 0 ∷ 11 ∷ 2 ∷ 1 ∷ 0 ∷ [])) 96 (17 ∷ 3 ∷ 4 ∷ 19 ∷ [])

abbrev pub L_trace : List ℕ
L_trace = 1 ∷ 1 ∷ 1 ∷ 1 ∷ 3 ∷ 2 ∷ 5 ∷ 0 ∷ 0 ∷ 0 ∷ 1 ∷ 1 ∷ 1 ∷ []

pub L_acceptable : accepts L_map L_grid ≡ Ok tt
unfolding whole
L_acceptable = refl

pub L_well_formed : well_formed 2 (start L_map) ≡ true
unfolding whole
L_well_formed = refl

pub L_long : length L_memory ≡ L_map.length
L_long = refl

-- "(60 bytes)"
pub L_sheet_length : length (sheet_bytes L_map L_grid) ≡ 60
unfolding whole
L_sheet_length = refl

pub L_reads_back : sheet_read (sheet_bytes L_map L_grid) ≡ Found.whole L_map L_grid
unfolding whole
L_reads_back = refl

-- the eight lines and the last: "active 0"
pub L_answers :
    (run L_map L_grid (start L_map) L_memory (trace_of 0 L_trace).events).answers
    ≡ Answer.Ran 1 ∷ Answer.Faulted 1 (Reason.Write 128) ∷ Answer.Waits 2 ∷ Answer.Idle
    ∷ Answer.Taken 2 ∷ Answer.Ran 2 ∷ Answer.Halted 2 ∷ Answer.Idle ∷ []
unfolding whole
L_answers = refl

pub L_closes : (trace_of 0 L_trace).close ≡ Ok tt
unfolding whole
L_closes = refl

pub L_last : (run L_map L_grid (start L_map) L_memory (trace_of 0 L_trace).events).state.active ≡ 0
unfolding whole
L_last = refl
