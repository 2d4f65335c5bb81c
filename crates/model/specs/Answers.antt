-- What the public calls and the event reader return, where it is a Result: an alias of crate model's types has no name here of its own.
-- Assumes nothing.
use Rattle.std.specs.Prelude.{ℕ, Bool, ⊤, Result}
use Rattle.model.specs.declared.event.Event.{Event}
use Rattle.model.specs.declared.event.Answer.{Answer}
use Rattle.model.specs.declared.refusal.Refusal.{Refusal}
use Rattle.model.specs.declared.refusal.RefusedAt.{RefusedAt}
use Rattle.model.specs.declared.call.Stop.{Stop}

-- nothing is refused, or the first refusal that applies
abbrev pub Verdict : Type 0
Verdict = Result ⊤ Refusal

abbrev pub Permission : Type 0
Permission = Result Bool Refusal

-- a refusal and the offset of its record
abbrev pub refused_at : Refusal → ℕ → RefusedAt
refused_at r at = record { refusal = r; at = at }

abbrev pub Reading : Type 0
Reading = Result ⊤ RefusedAt

abbrev pub Writing : Type 0
Writing = Result ℕ Refusal

abbrev pub Reply : Type 0
Reply = Result Answer Refusal

-- an event and how many bytes it takes
abbrev pub EventRead : Type 0
EventRead = Result (Event × ℕ) Refusal

-- a trace is played to its end, or stops
abbrev pub Close : Type 0
Close = Result ⊤ Stop
