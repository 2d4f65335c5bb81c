-- What holds of every instruction at once: the words of the laws in proofs/InstructionsLaws.antt.
--     Earned                what a fault's reason says of the rights
--     Each                  what holds of every deed that a plan may end in
--     Fits                  what an instruction leaves of its own context: the status, and the box unless it takes the word
-- Assumes nothing.
use Rattle.std.specs.Prelude.{ℕ, ◌<◌, ◌≡◌, true, false, List}
use Rattle.model.specs.Map.{Rights}
use Rattle.model.specs.States.{take_word, full}
use Rattle.model.specs.Instructions.{Deed, Plan}
use Rattle.model.specs.declared.map.Access.{Access}
use Rattle.model.specs.declared.state.Reason.{Reason}
use Rattle.model.specs.declared.state.Context.{Context}

-- what a fault's reason says of the rights: the address is denied, the channel not granted, the kind above 19, the register above 7
abbrev pub Earned : Rights → Reason → Type 0
Earned q (Reason.Fetch a) = q.allows Access.Fetch a ≡ false
Earned q (Reason.Read a) = q.allows Access.Read a ≡ false
Earned q (Reason.Write a) = q.allows Access.Write a ≡ false
Earned q (Reason.Kind b) = 19 < b
Earned q (Reason.Register b) = 7 < b
Earned q (Reason.Channel t) = q.sends t ≡ false

-- every deed that the plan may end in with these rights satisfies P, whatever bytes it gets; a denial's fault aside, which is not the plan's
abbrev pub Each : Rights → (Deed → Type 0) → Plan → Type 0
Each q P (Plan.ask k a n go) = (got : List ℕ) → Each q P (go got)
Each q P (Plan.store a bs c) = P (Deed.runs c)
Each q P (Plan.pass t w c) = q.sends t ≡ true → P (Deed.sends t w c)
Each q P (Plan.end x) = P x

-- c with other registers and another counter; the box is c's, or without the word that was taken
pub data Alike (c : Context) : Context → Type 0 where
  same : (rs : List ℕ) (n : ℕ) → Alike c (record { registers = rs; counter = n; status = c.status; mailbox = c.mailbox })
  took : (rs : List ℕ) (n : ℕ) → Alike c (record { registers = rs; counter = n; status = c.status; mailbox = take_word c.mailbox })

-- what a deed is to the context c that it comes from. "Receive from an empty box sets waiting", "Send faults as channel if .. not granted"
abbrev pub Fits : Rights → Context → Deed → Type 0
Fits q c (Deed.runs x) = Alike c x
Fits q c (Deed.gives_way x) = Alike c x
Fits q c Deed.waits = full c.mailbox ≡ false
Fits q c Deed.halts = Unit {0}
Fits q c (Deed.faults r) = Earned q r
Fits q c (Deed.sends t w x) = (q.sends t ≡ true) × Alike c x
