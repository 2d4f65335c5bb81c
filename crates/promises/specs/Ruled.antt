-- What a verdict, a sheet's reading and an event's reading say, and what it is for one to be what some tests come to (Tests).
--     Rules       a verdict is what some tests come to
--     Reads       a reading is what some tests come to
-- The laws are in proofs/Ruled.antt.
-- Assumes nothing.
use Rattle.std.specs.Prelude.{ℕ, ◌≡◌, List, leb, length, Result, Ok, Err}
use Rattle.model.specs.Map.{Grid}
use Rattle.model.specs.Refusals.{refusal_number, check, ◌▸◌, accepts}
use Rattle.model.specs.Sheet.{Found, sheet_bytes}
use Rattle.model.specs.declared.map.Map.{Map}
use Rattle.model.specs.Answers.{Verdict}
use Rattle.model.specs.declared.refusal.Refusal.{Refusal}
use Rattle.promises.specs.Tests.{Test, Ruling, ruling}

-- ---- what a verdict, an answer or an event's reading says, and what a sheet's reading says

abbrev pub of_answer : {A : Type 0} → ℕ → Result A Refusal → Ruling
of_answer at (Ok x) = Ruling.accepted
of_answer at (Err r) = Ruling.refused (refusal_number r) at

abbrev pub of_found : Found → Ruling
of_found (Found.whole m g) = Ruling.accepted
of_found (Found.refused r at) = Ruling.refused (refusal_number r) at

-- ---- tests in a row

-- a verdict that is what some tests come to
pub record Rules (at : ℕ) (v : Verdict) (ts : List Test) : Type 0 where
  pub by : of_answer at v ≡ ruling ts

-- the writer's own: 10 after the map
abbrev pub fitting : Map → Grid → List ℕ → Verdict
fitting m g buffer = accepts m g ▸ check (leb (length (sheet_bytes m g)) (length buffer)) Refusal.Buffer

-- ---- the reader's tests

pub record Reads (f : Found) (ts : List Test) : Type 0 where
  pub by : of_found f ≡ ruling ts
