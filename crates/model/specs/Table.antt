-- Document 01, "Instructions": the table, a row for each kind, 0 to 19.
-- Assumes nothing.
use Rattle.std.specs.Prelude.{ℕ, List, [], ◌∷◌, get_or}
use Rattle.model.specs.declared.instruction.Effect.{Effect}
use Rattle.model.specs.declared.instruction.Decoded.{Decoded}

-- "r and s are register bytes, o an offset byte, a a 16-bit little-endian address": n is a 32-bit number, d a domain byte
pub data Body : Type 0 where
  - r_n r_s r_s_o a r_a r d_r : Body

abbrev pub size : Body → ℕ
size Body.- = 0
size Body.r_n = 5
size Body.r_s = 2
size Body.r_s_o = 3
size Body.a = 2
size Body.r_a = 3
size Body.r = 1
size Body.d_r = 2

-- the register bytes of a body, "in body order"
abbrev pub registers_of : Body → List ℕ → List ℕ
registers_of Body.- b = []
registers_of Body.r_n b = get_or b 0 0 ∷ []
registers_of Body.r_s b = get_or b 0 0 ∷ get_or b 1 0 ∷ []
registers_of Body.r_s_o b = get_or b 0 0 ∷ get_or b 1 0 ∷ []
registers_of Body.a b = []
registers_of Body.r_a b = get_or b 0 0 ∷ []
registers_of Body.r b = get_or b 0 0 ∷ []
registers_of Body.d_r b = get_or b 1 0 ∷ []

pub record Row : Type 0 where
  pub form : Body
  pub effect : Effect

abbrev row : Body → Effect → Row
row b e = record { form = b; effect = e }

unfoldable pub table : List Row
table =
    row Body.- Effect.Nothing
    ∷ row Body.r_n Effect.Set
    ∷ row Body.r_s Effect.Copy
    ∷ row Body.r_s Effect.Add
    ∷ row Body.r_s Effect.Subtract
    ∷ row Body.r_s Effect.And
    ∷ row Body.r_s Effect.Or
    ∷ row Body.r_s Effect.Xor
    ∷ row Body.r_s Effect.Less
    ∷ row Body.r_s_o Effect.LoadByte
    ∷ row Body.r_s_o Effect.LoadWord
    ∷ row Body.r_s_o Effect.StoreByte
    ∷ row Body.r_s_o Effect.StoreWord
    ∷ row Body.a Effect.Jump
    ∷ row Body.r_a Effect.JumpIf
    ∷ row Body.r Effect.JumpTo
    ∷ row Body.d_r Effect.Send
    ∷ row Body.r_s Effect.Receive
    ∷ row Body.- Effect.Advance
    ∷ row Body.- Effect.Halt
    ∷ []

unfoldable pub row_of : ℕ → Row
row_of kind = get_or table kind (row Body.- Effect.Nothing)

abbrev pub decoded : ℕ → Decoded
decoded kind = record { length = size (row_of kind).form; effect = (row_of kind).effect }
