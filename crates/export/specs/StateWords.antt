-- A state as 121 words: active, then 15 a context.
-- Assumes nothing.
use Rattle.std.specs.Prelude.{ℕ, ◌+◌, ◌*◌, ◌%◌, List, [], ◌∷◌, ◌++◌, eqb, get_or, if◌then◌else◌}
use Rattle.model.specs.States.{reason_number, register, missing, with_active}
use Rattle.model.specs.declared.state.Reason.{Reason}
use Rattle.model.specs.declared.state.Status.{Status}
use Rattle.model.specs.declared.state.Mailbox.{Mailbox}
use Rattle.model.specs.declared.state.Context.{Context}
use Rattle.model.specs.declared.state.State.{State}
use Rattle.export.specs.Words.{alike, low, high, joined, flag, eight, parts}

-- ---- a status: which, and the number of a fault

abbrev pub reason_word : Reason → ℕ
reason_word (Reason.Fetch a) = 3
reason_word (Reason.Read a) = 4
reason_word (Reason.Write a) = 5
reason_word (Reason.Kind b) = 6
reason_word (Reason.Register b) = 7
reason_word (Reason.Channel b) = 8

abbrev pub status_word : Status → ℕ
status_word Status.Halted = 0
status_word Status.Ready = 1
status_word Status.Waiting = 2
status_word (Status.Faulted r) = reason_word r

abbrev pub status_number : Status → ℕ
status_number Status.Halted = 0
status_number Status.Ready = 0
status_number Status.Waiting = 0
status_number (Status.Faulted r) = reason_number r

abbrev pub reason_words : Reason → List ℕ
reason_words r = reason_word r ∷ low (reason_number r) ∷ high (reason_number r) ∷ []

abbrev pub status_words : Status → List ℕ
status_words s = status_word s ∷ low (status_number s) ∷ high (status_number s) ∷ []

abbrev pub statuses : ℕ → ℕ → List Status
statuses a b =
    Status.Halted ∷ Status.Ready ∷ Status.Waiting ∷ Status.Faulted (Reason.Fetch a) ∷ Status.Faulted (Reason.Read a)
    ∷ Status.Faulted (Reason.Write a) ∷ Status.Faulted (Reason.Kind b) ∷ Status.Faulted (Reason.Register b)
    ∷ Status.Faulted (Reason.Channel b) ∷ []

unfoldable pub status_by : ℕ → ℕ → ℕ → Status
status_by a b k = get_or (statuses a b) k Status.Halted

abbrev pub status_of : ℕ → ℕ → ℕ → Status
status_of k l h = status_by (joined l h) (l % 256) k

-- ---- a context, the same both ways round: registers, counter, status, box

abbrev pub registers_from : List ℕ → ℕ → List ℕ
registers_from w at =
    get_or w at 0 ∷ get_or w (at + 1) 0 ∷ get_or w (at + 2) 0 ∷ get_or w (at + 3) 0 ∷ get_or w (at + 4) 0 ∷ get_or w (at + 5) 0
    ∷ get_or w (at + 6) 0 ∷ get_or w (at + 7) 0 ∷ []

abbrev pub status_from : List ℕ → ℕ → Status
status_from w at = status_of (get_or w (at + 9) 0) (get_or w (at + 10) 0) (get_or w (at + 11) 0)

abbrev pub box_from : List ℕ → ℕ → Mailbox
box_from w at =
    record { full = eqb (get_or w (at + 12) 0) 1; word = get_or w (at + 13) 0; sender = get_or w (at + 14) 0 % 256 }

abbrev pub context_from : List ℕ → ℕ → Context
context_from w at =
    record {
      registers = registers_from w at;
      counter = get_or w (at + 8) 0;
      status = status_from w at;
      mailbox = box_from w at;
    }

abbrev pub context_at : List ℕ → ℕ → Context
context_at w i = context_from w (1 + 15 * i)

abbrev pub tail_words : Context → List ℕ
tail_words c =
    c.counter ∷ status_word c.status ∷ low (status_number c.status) ∷ high (status_number c.status)
    ∷ flag c.mailbox.full ∷ c.mailbox.word ∷ c.mailbox.sender ∷ []

unfoldable pub context_words : Context → List ℕ
context_words c = eight (register c) ++ tail_words c

-- ---- a state

unfoldable pub unpacked : List ℕ → State
unpacked w = record { active = get_or w 0 0 % 256; contexts = eight (context_at w) }

unfoldable pub packed : State → List ℕ
packed s = s.active ∷ parts (λ i. context_words (get_or s.contexts i missing))

-- words that no state is written as give a state with active 255, which is well formed for no map
unfoldable pub state_of : List ℕ → State
state_of w = if alike (packed (unpacked w)) w 121 then unpacked w else with_active (unpacked w) 255
