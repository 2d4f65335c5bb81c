-- Document 01, "Instructions".
-- An instruction, for its context alone, is a plan: what it asks for, and what it does with what it gets.
-- Rights are consulted in one place, `carry`.
-- Assumes nothing.
use Rattle.std.specs.Prelude.{ℕ, zero, suc, ◌+◌, ◌-◌, ◌%◌, ◌^◌, List, [], ◌∷◌, leb, ltb, eqb, length, get_or, if◌then◌else◌}
use Rattle.std.specs.Int.Bits.{bit_and, bit_or, bit_xor}
use Rattle.std.proofs.lemmas.List.Edits.{sets}
use Rattle.model.specs.Basics.{unless, bytes, number, half}
use Rattle.model.specs.Map.{Rights, lowest}
use Rattle.model.specs.Table.{Row, size, registers_of, row_of}
use Rattle.model.specs.States.{full, held_word, held_sender, take_word, register, set_register, with_counter, with_box}
use Rattle.model.specs.declared.map.Access.{Access}
use Rattle.model.specs.declared.state.Reason.{Reason}
use Rattle.model.specs.declared.state.Context.{Context}
use Rattle.model.specs.declared.instruction.Effect.{Effect}

-- ---- plans

pub data Deed : Type 0 where
  runs : Context → Deed
  gives_way : Context → Deed
  waits : Deed
  halts : Deed
  faults : Reason → Deed
  sends : ℕ → ℕ → Context → Deed

pub data Plan : Type 0 where
  ask : Access → ℕ → ℕ → (List ℕ → Plan) → Plan
  store : ℕ → List ℕ → Context → Plan
  pass : ℕ → ℕ → Context → Plan
  end : Deed → Plan

-- "A jump only sets the counter; a bad target faults at the next fetch."
abbrev pub jump : Context → ℕ → Plan
jump c target = Plan.end (Deed.runs (with_counter c target))

-- the bytes r, s and o of a body; what is in r and s; the address s + o; r becomes a number
abbrev pub byte_r : List ℕ → ℕ
byte_r b = get_or b 0 0

abbrev pub byte_s : List ℕ → ℕ
byte_s b = get_or b 1 0

abbrev pub byte_o : List ℕ → ℕ
byte_o b = get_or b 2 0

abbrev pub in_r : Context → List ℕ → ℕ
in_r c b = register c (byte_r b)

abbrev pub in_s : Context → List ℕ → ℕ
in_s c b = register c (byte_s b)

abbrev pub address : Context → List ℕ → ℕ
address c b = in_s c b + byte_o b

abbrev pub becomes : Context → List ℕ → ℕ → Plan
becomes on b v = Plan.end (Deed.runs (set_register on (byte_r b) v))

-- "receive word into r, then sender into s; the box becomes empty"
abbrev pub take_into : Context → Context → ℕ → ℕ → Context
take_into c on r s =
    set_register (set_register (with_box on (take_word c.mailbox)) r (held_word c.mailbox)) s (held_sender c.mailbox)

-- the effect with body b in context c; `on` is c with its counter past the instruction.
-- "Every register that an instruction reads is read before it sets any": values are read from c.
-- The body of send is d r, so its first byte is the domain and its second the register
unfoldable pub work : Effect → List ℕ → Context → Context → Plan
work Effect.Nothing b c on = Plan.end (Deed.runs on)
work Effect.Set b c on = becomes on b (number b 1)
work Effect.Copy b c on = becomes on b (in_s c b)
work Effect.Add b c on = becomes on b ((in_r c b + in_s c b) % 2 ^ 32)
work Effect.Subtract b c on = becomes on b ((in_r c b + 2 ^ 32 - in_s c b) % 2 ^ 32)
work Effect.And b c on = becomes on b (bit_and (in_r c b) (in_s c b))
work Effect.Or b c on = becomes on b (bit_or (in_r c b) (in_s c b))
work Effect.Xor b c on = becomes on b (bit_xor (in_r c b) (in_s c b))
work Effect.Less b c on = becomes on b (if ltb (in_r c b) (in_s c b) then 1 else 0)
work Effect.LoadByte b c on = Plan.ask Access.Read (address c b) 1 (λ got. becomes on b (get_or got 0 0))
work Effect.LoadWord b c on = Plan.ask Access.Read (address c b) 4 (λ got. becomes on b (number got 0))
work Effect.StoreByte b c on = Plan.store (address c b) (in_r c b % 256 ∷ []) on
work Effect.StoreWord b c on = Plan.store (address c b) (bytes (in_r c b)) on
work Effect.Jump b c on = jump c (half b 0)
work Effect.JumpIf b c on = if eqb (in_r c b) 0 then Plan.end (Deed.runs on) else jump c (half b 1)
work Effect.JumpTo b c on = jump c (in_r c b)
work Effect.Send b c on = Plan.pass (get_or b 0 0) (register c (get_or b 1 0)) on
work Effect.Receive b c on =
    Plan.end (if full c.mailbox then Deed.runs (take_into c on (byte_r b) (byte_s b)) else Deed.waits)
work Effect.Advance b c on = Plan.end (Deed.gives_way on)
work Effect.Halt b c on = Plan.end Deed.halts

-- "registers above 7 in body order"
unfoldable pub checked : List ℕ → Plan → Plan
checked [] p = p
checked (r ∷ rs) p = let rest = checked rs p in if leb r 7 then rest else Plan.end (Deed.faults (Reason.Register r))

-- a kind of the table with its body b
unfoldable pub worked : Row → Context → List ℕ → Plan
worked k c b =
    checked (registers_of k.form b) (work k.effect b c (with_counter c (c.counter + 1 + size k.form)))

-- "fetch of the kind byte, kind above 19, fetch of the body, registers above 7 in body order, then access or channel"
unfoldable pub decode : Context → ℕ → Plan
decode c kind =
    if leb kind 19
    then Plan.ask Access.Fetch (c.counter + 1) (size (row_of kind).form) (worked (row_of kind) c)
    else Plan.end (Deed.faults (Reason.Kind kind))

unfoldable pub plan : Context → Plan
plan c = Plan.ask Access.Fetch c.counter 1 (λ got. decode c (get_or got 0 0))

-- ---- what a plan comes to with these rights and this memory

pub record Done : Type 0 where
  pub deed : Deed
  pub memory : List ℕ

-- n bytes from a
unfoldable pub peek : List ℕ → ℕ → ℕ → List ℕ
peek memory a zero = []
peek memory a (suc n) = get_or memory a 0 ∷ peek memory (a + 1) n

abbrev pub denied : Access → ℕ → Reason
denied Access.Read a = Reason.Read a
denied Access.Write a = Reason.Write a
denied Access.Fetch a = Reason.Fetch a

abbrev pub kept : List ℕ → Deed → Done
kept memory x = record { deed = x; memory = memory }

-- an access happens if each of its bytes is allowed, and otherwise not at all
unfoldable pub carry : Rights → List ℕ → Plan → Done
carry q memory (Plan.ask k a n go) =
    let rest = carry q memory (go (peek memory a n)) in
    unless (lowest (q.allows k) a n) (λ x. kept memory (Deed.faults (denied k x))) rest
carry q memory (Plan.store a bs c) =
    unless (lowest (q.allows Access.Write) a (length bs)) (λ x. kept memory (Deed.faults (denied Access.Write x)))
    (kept (sets memory a bs) (Deed.runs c))
carry q memory (Plan.pass t w c) =
    if q.sends t then kept memory (Deed.sends t w c) else kept memory (Deed.faults (Reason.Channel t))
carry q memory (Plan.end x) = kept memory x
