-- What a load gives, and what a store gives and leaves, by the access rule.
-- Assumes nothing.
use Rattle.std.specs.Prelude.{ℕ, List, length, Result, Ok, Err, ⊤}
use Rattle.std.proofs.lemmas.List.Edits.{sets}
use Rattle.model.specs.Basics.{unless}
use Rattle.model.specs.Map.{may, lowest}
use Rattle.model.specs.Instructions.{peek}
use Rattle.model.specs.declared.map.Access.{Access}
use Rattle.model.specs.declared.map.Domain.{Domain}
use Rattle.model.specs.declared.state.Reason.{Reason}

-- the n bytes from a, or the lowest of them that is denied
abbrev pub load : Domain → ℕ → ℕ → List ℕ → Result (List ℕ) Reason
load own a n memory = unless (lowest (may own Access.Read) a n) (λ x. Err (Reason.Read x)) (Ok (peek memory a n))

abbrev pub store : Domain → ℕ → List ℕ → List ℕ → Result ⊤ Reason × List ℕ
store own a bs memory =
    unless (lowest (may own Access.Write) a (length bs)) (λ x. (Err (Reason.Write x), memory)) (Ok tt, sets memory a bs)
