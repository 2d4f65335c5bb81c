-- What a call's result comes to for C: the number that is returned, and what is set in what was lent. "Any other refused call sets no byte and
-- gives back state, map and grid as they came, with counts 0"; a refused start and a refused reading give the state, the map and the grid
-- that the calls give.
-- Assumes nothing.
use Rattle.std.specs.Prelude.{ℕ, List, Result, Ok, Err}
use Rattle.model.specs.Refusals.{refusal_number, verdict_number}
use Rattle.model.specs.Calls.{Left, left}
use Rattle.model.specs.declared.state.State.{State}
use Rattle.model.specs.declared.refusal.Refusal.{Refusal}
use Rattle.model.specs.declared.call.Stop.{Stop}
use Rattle.model.specs.Answers.{Permission, Reading, Writing, Reply, Close}
use Rattle.model.specs.declared.call.Started.{Started}
use Rattle.model.specs.declared.call.Stepped.{Stepped}
use Rattle.model.specs.declared.call.Played.{Played}
use Rattle.model.specs.declared.call.Ending.{Ending}
use Rattle.model.specs.declared.call.Batched.{Batched}
use Rattle.export.specs.Words.{flag}
use Rattle.export.specs.StateWords.{packed}
use Rattle.export.specs.AnswerWords.{answer_words}

-- ---- the sheet

abbrev pub reading_report : Reading → Left ℕ ℕ
reading_report (Ok tt) = left 0 0
reading_report (Err f) = left (refusal_number f.refusal) f.at

abbrev pub writing_report : Writing → Left ℕ ℕ
writing_report (Ok n) = left 0 n
writing_report (Err r) = left (refusal_number r) 0

-- ---- the question and the view

abbrev pub permission_report : ℕ → Permission → Left ℕ ℕ
permission_report granted (Ok b) = left 0 (flag b)
permission_report granted (Err r) = left (refusal_number r) granted

pub record Viewed : Type 0 where
  pub number : ℕ
  pub begin : ℕ
  pub length : ℕ

abbrev pub viewed : ℕ → ℕ → ℕ → Viewed
viewed n b l = record { number = n; begin = b; length = l }

-- ---- the machine

abbrev pub started_report : Started → Left ℕ (List ℕ)
started_report x = left (verdict_number x.verdict) (packed x.state)

pub record Told : Type 0 where
  pub number : ℕ
  pub state : List ℕ
  pub answer : List ℕ

abbrev pub told : ℕ → List ℕ → List ℕ → Told
told n s a = record { number = n; state = s; answer = a }

abbrev pub reply_report : List ℕ → List ℕ → State → Reply → Told
reply_report state answer s (Ok a) = told 0 (packed s) (answer_words a)
reply_report state answer s (Err r) = told (refusal_number r) state answer

abbrev pub stepped_report : List ℕ → List ℕ → Stepped → Told
stepped_report state answer x = reply_report state answer x.state x.reply

pub record Counted : Type 0 where
  pub number : ℕ
  pub state : List ℕ
  pub events : ℕ
  pub at : ℕ

abbrev pub counted : ℕ → List ℕ → ℕ → ℕ → Counted
counted n s e at = record { number = n; state = s; events = e; at = at }

-- "Playing a trace stops at its first broken record with 11 or 12, its offset and the events done": these stand
abbrev pub close_report : List ℕ → State → ℕ → Close → Counted
close_report state s n (Ok tt) = counted 0 (packed s) n 0
close_report state s n (Err (Stop.Broken f)) = counted (refusal_number f.refusal) (packed s) n f.at
close_report state s n (Err (Stop.Refused r)) = counted (refusal_number r) state 0 0

abbrev pub played_report : List ℕ → Played → Counted
played_report state x = close_report state x.state x.events x.close

pub record Spent : Type 0 where
  pub number : ℕ
  pub state : List ℕ
  pub steps : ℕ

abbrev pub spent : ℕ → List ℕ → ℕ → Spent
spent n s k = record { number = n; state = s; steps = k }

abbrev pub ending_report : List ℕ → State → ℕ → Result Ending Refusal → Spent
ending_report state s n (Ok x) = spent 0 (packed s) n
ending_report state s n (Err r) = spent (refusal_number r) state 0

abbrev pub batched_report : List ℕ → Batched → Spent
batched_report state x = ending_report state x.state x.steps x.ending
