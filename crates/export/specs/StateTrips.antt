-- What one call writes, the next one reads: a state of eight contexts of eight registers, with its numbers in their ranges, is read
-- back from its words as it was.
-- Assumes nothing.
use Rattle.std.specs.Prelude.{ℕ, zero, suc, ◌%◌, ◌^◌, ◌<◌, ◌≡◌, refl, Bool, true, false, List, eqb, length, get_or}
use Rattle.std.proofs.Common.{ap, ◌∙◌, arith, eq-eqb}
use Rattle.model.specs.States.{register, missing}
use Rattle.model.specs.declared.state.Reason.{Reason}
use Rattle.model.specs.declared.state.Status.{Status}
use Rattle.model.specs.declared.state.Mailbox.{Mailbox}
use Rattle.model.specs.declared.state.Context.{Context}
use Rattle.model.specs.declared.state.State.{State}
use Rattle.export.specs.Words.{alike, low, high, joined, flag, eight}
use Rattle.export.specs.WordsLaws.{eight_again, eight_same}
use Rattle.export.specs.StateWords.{status_word, status_number, status_by, status_of, context_words, unpacked, packed, state_of}

-- ---- the ranges that the types give

pub ReasonFits : Reason → Type 0
ReasonFits (Reason.Fetch a) = a < 2 ^ 64
ReasonFits (Reason.Read a) = a < 2 ^ 64
ReasonFits (Reason.Write a) = a < 2 ^ 64
ReasonFits (Reason.Kind b) = b < 256
ReasonFits (Reason.Register b) = b < 256
ReasonFits (Reason.Channel b) = b < 256

pub StatusFits : Status → Type 0
StatusFits Status.Halted = Unit {0}
StatusFits Status.Ready = Unit {0}
StatusFits Status.Waiting = Unit {0}
StatusFits (Status.Faulted r) = ReasonFits r

pub record Fits (c : Context) : Type 0 where
  pub registers : length c.registers ≡ 8
  pub status : StatusFits c.status
  pub sender : c.mailbox.sender < 256

-- ---- each part, read back

address_again : (a : ℕ) → a < 2 ^ 64 → joined (low a) (high a) ≡ a
address_again a h = omega arith

byte_again : (b : ℕ) → b < 256 → low b % 256 ≡ b
byte_again b h = omega arith

status_again : (x : Status) → StatusFits x → status_of (status_word x) (low (status_number x)) (high (status_number x)) ≡ x
unfolding StatusFits ReasonFits status_by
status_again Status.Halted f = refl
status_again Status.Ready f = refl
status_again Status.Waiting f = refl
status_again (Status.Faulted (Reason.Fetch a)) f = ap (λ n. Status.Faulted (Reason.Fetch n)) (address_again a f)
status_again (Status.Faulted (Reason.Read a)) f = ap (λ n. Status.Faulted (Reason.Read n)) (address_again a f)
status_again (Status.Faulted (Reason.Write a)) f = ap (λ n. Status.Faulted (Reason.Write n)) (address_again a f)
status_again (Status.Faulted (Reason.Kind b)) f = ap (λ n. Status.Faulted (Reason.Kind n)) (byte_again b f)
status_again (Status.Faulted (Reason.Register b)) f = ap (λ n. Status.Faulted (Reason.Register n)) (byte_again b f)
status_again (Status.Faulted (Reason.Channel b)) f = ap (λ n. Status.Faulted (Reason.Channel n)) (byte_again b f)

flag_again : (b : Bool) → eqb (flag b) 1 ≡ b
flag_again true = refl
flag_again false = refl

small : (n : ℕ) → n < 256 → n % 256 ≡ n
small n h = omega arith

abbrev box_again : Mailbox → Mailbox
box_again b = record { full = eqb (flag b.full) 1; word = b.word; sender = b.sender % 256 }

abbrev context_again : Context → Context
context_again c =
    record {
      registers = eight (register c);
      counter = c.counter;
      status = status_of (status_word c.status) (low (status_number c.status)) (high (status_number c.status));
      mailbox = box_again c.mailbox;
    }

unpacked_packed :
    (s : State)
    → unpacked (packed s)
    ≡ record { active = s.active % 256; contexts = eight (λ i. context_again (get_or s.contexts i missing)) }
unfolding unpacked packed context_words
unpacked_packed s = refl

abbrev with_parts : Context → List ℕ → Status → Bool → ℕ → Context
with_parts c rs x b n =
    record { registers = rs; counter = c.counter; status = x; mailbox = record { full = b; word = c.mailbox.word; sender = n } }

context_same : (c : Context) → Fits c → context_again c ≡ c
context_same c f =
    let again = context_again c in
    let full = again.mailbox.full in
    let sender = again.mailbox.sender in
    ap (λ rs. with_parts c rs again.status full sender) (eight_again c.registers 0 f.registers)
    ∙ ap (λ x. with_parts c c.registers x full sender) (status_again c.status f.status)
    ∙ ap (λ b. with_parts c c.registers c.status b sender) (flag_again c.mailbox.full)
    ∙ ap (with_parts c c.registers c.status c.mailbox.full) (small c.mailbox.sender f.sender)

alike_self : (xs : List ℕ) (n : ℕ) → alike xs xs n ≡ true
unfolding alike
alike_self xs zero = refl
alike_self xs (suc n) = rw (eq-eqb (get_or xs n 0) (get_or xs n 0) refl) (alike_self xs n)

module _ (s : State) (a : s.active < 256) (l : length s.contexts ≡ 8)
    (f : (i : ℕ) → i < 8 → Fits (get_or s.contexts i missing)) where
  pub unpacked_again : unpacked (packed s) ≡ s
  unpacked_again =
      unpacked_packed s
      ∙ ap (λ cs. record { active = s.active % 256; contexts = cs })
      (eight_same _ _ (λ i h. context_same (get_or s.contexts i missing) (f i h)) ∙ eight_again s.contexts missing l)
      ∙ ap (λ n. record { active = n; contexts = s.contexts }) (small s.active a)

  pub state_again : state_of (packed s) ≡ s
  unfolding state_of
  state_again = rw (unpacked_again, alike_self (packed s) 121)
