-- A state that is read.
--     status_known, status_none   a word that the table of statuses has, and one past its end
--     state_same, state_other     words that are the state's own, and others
-- Assumes nothing.
use Rattle.std.specs.Prelude.{ℕ, ◌≤◌, ◌≡◌, Bool, true, false, List}
use Rattle.std.proofs.Math.Path.{sym, ap}
use Rattle.std.proofs.Common.{◌∙◌}
use Rattle.std.proofs.Math.ListN.{get_or, get_or-eq_default}
use Rattle.model.specs.States.{with_active}
use Rattle.model.specs.declared.state.Status.{Status}
use Rattle.model.specs.declared.state.State.{State}
use Rattle.export.specs.Words.{alike}
use Rattle.export.specs.StateWords.{statuses, status_by, unpacked, packed, state_of}

module _ (a b k : ℕ) where
  pub status_known : (j : ℕ) → k ≡ j → get_or (statuses a b) j Status.Halted ≡ status_by a b k
  unfolding status_by
  status_known j e = sym (ap (λ k. get_or (statuses a b) k Status.Halted) e)

  pub status_none : 9 ≤ k → Status.Halted ≡ status_by a b k
  unfolding status_by
  status_none h = sym (get_or-eq_default (statuses a b) Status.Halted h)

-- the state that w is read as, and whether its own words are w
module _ (w : List ℕ) {s : State} {back : List ℕ} {x : Bool}
    (S : s ≡ unpacked w) (B : back ≡ packed s) (X : x ≡ alike back w 121) where
  test : {b : Bool} → x ≡ b → alike (packed (unpacked w)) w 121 ≡ b
  test e = sym (ap (λ s. alike (packed s) w 121) S) ∙ sym (ap (λ o. alike o w 121) B) ∙ sym X ∙ e

  pub state_same : x ≡ true → s ≡ state_of w
  unfolding state_of
  state_same e = S ∙ rw (test e)

  pub state_other : x ≡ false → with_active s 255 ≡ state_of w
  unfolding state_of
  state_other e = ap (λ s. with_active s 255) S ∙ rw (test e)
