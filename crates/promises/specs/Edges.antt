-- Document 01, "Both sides of each edge": the thirteen cases marked P, on Case L's map, in one list under one theorem.
-- Assumes nothing.
use Rattle.std.specs.Prelude.{ℕ, ◌≡◌, refl, List, [], ◌∷◌, ◌++◌, replicate}
use Rattle.std.proofs.lemmas.List.Edits.{sets}
use Rattle.model.specs.Map.{region, absent}
use Rattle.model.specs.Refusals.{verdict_number, accepts}
use Rattle.model.specs.States.{start}
use Rattle.model.specs.Events.{run}
use Rattle.model.specs.Whole.{whole}
use Rattle.model.specs.declared.map.Domain.{Domain}
use Rattle.model.specs.declared.map.Map.{Map}
use Rattle.model.specs.declared.state.Reason.{Reason}
use Rattle.model.specs.declared.event.Event.{Event}
use Rattle.model.specs.declared.event.Answer.{Answer}
use Rattle.promises.specs.CaseL.{one, two, L_map, L_grid}

-- what the definitions give, and what the paper says
pub data Says : Type 0 where
  number : ℕ → Says
  answers : List Answer → Says

pub record Case : Type 0 where
  pub given : Says
  pub paper : Says

infix 5 ◌is◌
abbrev ◌is◌ : Says → Says → Case
x is y = record { given = x; paper = y }

abbrev pub Hold : List Case → Type 0
Hold [] = Unit {0}
Hold (c ∷ cs) = (c.given ≡ c.paper) × Hold cs

-- Case L's map at another length, with another domain 1
abbrev with_length : ℕ → Domain → Map
with_length n d = record { length = n; kernel = region 0 32; count = 2; domains = d ∷ two ∷ replicate 6 absent }

abbrev of_length : ℕ → Says
of_length n = Says.number (verdict_number (accepts (with_length n one) L_grid))

abbrev with_data : ℕ → ℕ → Says
with_data b e =
    let d : Domain = record { code = region 32 64; «data» = region b e; entry = 32 } in
    Says.number (verdict_number (accepts (with_length 256 d) L_grid))

-- the program in memory from a on, all else zero; the answers to the events from the start
abbrev runs : ℕ → List ℕ → List Event → Says
runs a program es = Says.answers (run L_map L_grid (start L_map) (sets (replicate 256 0) a program) es).answers

abbrev twice : List Event
twice = Event.Step ∷ Event.Step ∷ []

-- R1 becomes n, then one instruction at it
abbrev at_R1 : List ℕ → List ℕ → Says
at_R1 n instruction = runs 32 (1 ∷ 1 ∷ n ++ instruction) twice

abbrev accepted : Says
accepted = Says.number 0

abbrev refused : ℕ → Says
refused n = Says.number n

abbrev ran_then : Answer → Says
ran_then x = Says.answers (Answer.Ran 1 ∷ x ∷ [])

abbrev pub cases : List Case
cases =
    (of_length 255 is refused 3)
    ∷ (of_length 256 is accepted)
    ∷ (of_length 65536 is accepted)
    ∷ (of_length 65537 is refused 3)
    ∷ (with_data 63 96 is refused 6)
    ∷ (at_R1 (92 ∷ 0 ∷ 0 ∷ 0 ∷ []) (12 ∷ 2 ∷ 1 ∷ 0 ∷ []) is ran_then (Answer.Ran 1))
    ∷ (at_R1 (93 ∷ 0 ∷ 0 ∷ 0 ∷ []) (12 ∷ 2 ∷ 1 ∷ 0 ∷ []) is ran_then (Answer.Faulted 1 (Reason.Write 96)))
    ∷ (at_R1 (62 ∷ 0 ∷ 0 ∷ 0 ∷ []) (10 ∷ 2 ∷ 1 ∷ 0 ∷ []) is ran_then (Answer.Ran 1))
    ∷ (at_R1 (255 ∷ 255 ∷ 255 ∷ 255 ∷ []) (9 ∷ 2 ∷ 1 ∷ 1 ∷ []) is ran_then (Answer.Faulted 1 (Reason.Read 4294967296)))
    ∷ (runs 32 (13 ∷ 64 ∷ 0 ∷ []) twice is ran_then (Answer.Faulted 1 (Reason.Fetch 64)))
    ∷ (runs 32 (13 ∷ 63 ∷ 0 ∷ replicate 28 0 ++ 1 ∷ []) twice is ran_then (Answer.Faulted 1 (Reason.Fetch 64)))
    ∷ (runs 32 (20 ∷ []) (Event.Step ∷ []) is Says.answers (Answer.Faulted 1 (Reason.Kind 20) ∷ []))
    ∷ (runs 96 (16 ∷ 1 ∷ 0 ∷ []) (Event.Tick ∷ Event.Step ∷ [])
    is Says.answers (Answer.Switched 2 ∷ Answer.Faulted 2 (Reason.Channel 1) ∷ []))
    ∷ []

pub edges : Hold cases
unfolding whole
edges = (refl, (refl, (refl, (refl, (refl, (refl, (refl, (refl, (refl, (refl, (refl, (refl, (refl, tt)))))))))))))
