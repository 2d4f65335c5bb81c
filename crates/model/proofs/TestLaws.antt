-- For code that makes the definitions' tests one by one. x is what the code found, a the definition's test, and they are equal:
-- passed, what follows decides; failed, the answer is known.
-- Assumes nothing.
use Rattle.std.specs.Prelude.{◌≡◌, refl, Bool, true, false, ◌&&◌, Ok, Err}
use Rattle.std.proofs.Common.{sym, ◌∙◌}
use Rattle.model.specs.Refusals.{check, ◌▸◌}
use Rattle.model.specs.declared.refusal.Refusal.{Refusal}
use Rattle.model.specs.Answers.{Verdict}

pub and_pass : {x a : Bool} (b : Bool) → x ≡ a → x ≡ true → a && b ≡ b
and_pass b e f = rw (sym e ∙ f)

pub and_stop : {x a : Bool} (b : Bool) → x ≡ a → x ≡ false → a && b ≡ false
and_stop b e f = rw (sym e ∙ f)

pub and_equal : {x a y b : Bool} → x ≡ a → y ≡ b → x && y ≡ a && b
and_equal e f = rw (e, f)

pub check_pass : {x a : Bool} (r : Refusal) → x ≡ a → x ≡ true → check a r ≡ Ok tt
check_pass r e f = rw (sym e ∙ f)

pub check_stop : {x a : Bool} (r : Refusal) → x ≡ a → x ≡ false → check a r ≡ Err r
check_stop r e f = rw (sym e ∙ f)

pub then_pass : {v : Verdict} (w : Verdict) → v ≡ Ok tt → v ▸ w ≡ w
then_pass w e = rw e

pub then_stop : {v : Verdict} {r : Refusal} (w : Verdict) → v ≡ Err r → v ▸ w ≡ Err r
then_stop w e = rw e

-- two tests with one refusal are one test
pub check_two : (a b : Bool) (r : Refusal) (w : Verdict) → check a r ▸ (check b r ▸ w) ≡ check (a && b) r ▸ w
check_two true b r w = refl
check_two false b r w = refl

pub check_last : (a b : Bool) (r : Refusal) → check a r ▸ check b r ≡ check (a && b) r
check_last true b r = refl
check_last false b r = refl
