-- An answer as five words: kind, domain, reason, the reason's number.
-- Assumes nothing.
use Rattle.std.specs.Prelude.{ℕ, List, [], ◌∷◌}
use Rattle.model.specs.declared.state.Reason.{Reason}
use Rattle.model.specs.declared.event.Answer.{Answer}
use Rattle.export.specs.StateWords.{reason_words}

abbrev pub plain : ℕ → ℕ → List ℕ
plain kind d = kind ∷ d ∷ 0 ∷ 0 ∷ 0 ∷ []

abbrev pub faulted : ℕ → Reason → List ℕ
faulted d r = 4 ∷ d ∷ reason_words r

unfoldable pub answer_words : Answer → List ℕ
answer_words Answer.Idle = plain 0 0
answer_words (Answer.Ran d) = plain 1 d
answer_words (Answer.Waits d) = plain 2 d
answer_words (Answer.Halted d) = plain 3 d
answer_words (Answer.Faulted d r) = faulted d r
answer_words (Answer.Switched d) = plain 5 d
answer_words (Answer.Taken d) = plain 6 d
answer_words (Answer.Full d) = plain 7 d
answer_words (Answer.NoDomain b) = plain 8 b
