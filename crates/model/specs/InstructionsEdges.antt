-- The definitions of Instructions at both sides of an edge, by computation, the paper's "errors that look right" among them:
-- a wrong definition shows here as a wrong value.
-- Assumes nothing.
use Rattle.std.specs.Prelude.{ℕ, ◌≡◌, refl, true, List, [], ◌∷◌, map, replicate}
use Rattle.std.proofs.Math.Option.{Option, none, some}
use Rattle.std.proofs.lemmas.List.Edits.{sets}
use Rattle.model.specs.Map.{may, Rights, lowest}
use Rattle.model.specs.MapEdges.{gapped}
use Rattle.model.specs.States.{empty_box, fill, blank, register, set_register, with_counter, with_box}
use Rattle.model.specs.Instructions.{Deed, Plan, work, plan, kept, carry, checked, worked, decode, peek}
use Rattle.model.specs.declared.state.Context.{Context}
use Rattle.model.specs.declared.instruction.Effect.{Effect}
use Rattle.model.specs.declared.state.Reason.{Reason}
use Rattle.model.specs.Table.{table, row_of}

-- "receive word into r, then sender into s": with r = s the sender stays; from an empty box: waits
abbrev holding : Context
holding = with_box blank (fill empty_box 77 2)

abbrev left_in_R3 : Plan → Option ℕ
left_in_R3 (Plan.ask k a n go) = none
left_in_R3 (Plan.store a bs c) = none
left_in_R3 (Plan.pass t w c) = none
left_in_R3 (Plan.end (Deed.runs c)) = some (register c 3)
left_in_R3 (Plan.end (Deed.gives_way c)) = none
left_in_R3 (Plan.end Deed.waits) = none
left_in_R3 (Plan.end Deed.halts) = none
left_in_R3 (Plan.end (Deed.faults r)) = none
left_in_R3 (Plan.end (Deed.sends t w c)) = none

receive_edges :
    map left_in_R3
    (work Effect.Receive (3 ∷ 4 ∷ []) holding holding ∷ work Effect.Receive (3 ∷ 3 ∷ []) holding holding
    ∷ work Effect.Receive (3 ∷ 4 ∷ []) blank blank ∷ [])
    ≡ some 77 ∷ some 2 ∷ none ∷ []
unfolding work
receive_edges = refl

abbrev own_rights : Rights
own_rights = record { allows = may gapped; sends = λ t. true }

abbrev zeroed : List ℕ
zeroed = replicate 100 0

-- a word at data's end is stored; one byte further none of it is
store_edges :
    map (λ a. carry own_rights zeroed (Plan.store a (1 ∷ 2 ∷ 3 ∷ 4 ∷ []) blank)) (92 ∷ 93 ∷ [])
    ≡ kept (sets zeroed 92 (1 ∷ 2 ∷ 3 ∷ 4 ∷ [])) (Deed.runs blank) ∷ kept zeroed (Deed.faults (Reason.Write 96)) ∷ []
unfolding may lowest carry
store_edges = refl

-- a copy with bad registers: at 60 the first is told; at 62 its body runs past the code, which is told before;
-- an unknown kind at 63 is told before its body is looked for
order_edges :
    map (λ n. (carry own_rights (sets zeroed 60 (2 ∷ 9 ∷ 2 ∷ 20 ∷ [])) (plan (with_counter blank n))).deed) (60 ∷ 62 ∷ 63 ∷ [])
    ≡ Deed.faults (Reason.Register 9) ∷ Deed.faults (Reason.Fetch 64) ∷ Deed.faults (Reason.Kind 20) ∷ []
unfolding may lowest table row_of work checked worked decode plan peek carry
order_edges = refl

-- 7 is a register, 8 is none
register_edges :
    map (λ r. checked (r ∷ []) (Plan.end Deed.halts)) (7 ∷ 8 ∷ [])
    ≡ Plan.end Deed.halts ∷ Plan.end (Deed.faults (Reason.Register 8)) ∷ []
unfolding checked
register_edges = refl

-- the word sent from R0 is what stood there before
abbrev seven : Context
seven = set_register blank 0 7

send_edges : work Effect.Send (2 ∷ 0 ∷ []) seven seven ≡ Plan.pass 2 7 seven
unfolding work
send_edges = refl
