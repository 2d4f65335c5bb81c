-- A well-formed state, as facts: the words of the laws in proofs/StatesLaws.antt.
--     Good                  the facts that `well_formed count s ≡ true` gives, Led of the active domain and Held of the contexts
-- Assumes nothing.
use Rattle.std.specs.Prelude.{ℕ, ◌≤◌, ◌<◌, ◌≡◌, true, false}
use Rattle.model.specs.Map.{most}
use Rattle.model.specs.States.{context, ready, context_good, is_blank}
use Rattle.model.specs.declared.state.State.{State}

-- ---- "Well formed"

-- "active is 0 to N; it is 0 exactly if no domain is ready, else that domain is ready"
pub record Led (count : ℕ) (s : State) : Type 0 where
  pub active : s.active ≤ count
  pub idle : s.active ≡ 0 → (d : ℕ) → 1 ≤ d → d ≤ count → ready s d ≡ false
  pub runs : 1 ≤ s.active → ready s s.active ≡ true

-- "a waiting domain's box is empty; an empty box has word and sender 0, a full one a sender 0 to N; contexts past N are zero and halted"
pub record Held (count : ℕ) (s : State) : Type 0 where
  pub present : (d : ℕ) → 1 ≤ d → d ≤ count → context_good count (context s d) ≡ true
  pub past : (d : ℕ) → count < d → d ≤ most → is_blank (context s d) ≡ true

pub record Good (count : ℕ) (s : State) : Type 0 where
  pub led : Led count s
  pub held : Held count s
