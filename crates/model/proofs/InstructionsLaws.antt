-- Laws of Instructions, for every instruction at once.
--     Earned               what a fault's reason says of the rights
--     Each, carry_each     what holds of every deed that a plan may end in holds of the one that it comes to
--     Fits, plan_fits      what an instruction leaves of its own context: the status, and the box unless it takes the word
--     carry_long           memory keeps its length
-- Assumes nothing.
use Rattle.std.specs.Prelude.{ℕ, ◌≡◌, refl, true, false, List, [], ◌∷◌, leb, eqb, length, get_or}
use Rattle.std.proofs.Math.Option.{some}
use Rattle.std.proofs.Common.{leb-false}
use Rattle.std.proofs.Math.Seq.{length-sets}
use Rattle.model.proofs.BasicsLaws.{by_bool, by_option}
use Rattle.model.specs.Map.{Rights, lowest}
use Rattle.model.proofs.MapLaws.{lowest_denied}
use Rattle.model.specs.Table.{registers_of, row_of}
use Rattle.model.specs.States.{context_good, full, register, set_register, with_counter}
use Rattle.model.proofs.StatesLaws.{take_good, take_waits}
use Rattle.model.specs.Instructions.{Deed, Plan, jump, work, checked, worked, decode, plan, denied, carry, peek}
use Rattle.model.specs.declared.map.Access.{Access}
use Rattle.model.specs.declared.state.Reason.{Reason}
use Rattle.model.specs.declared.state.Context.{Context}
use Rattle.model.specs.declared.instruction.Effect.{Effect}
use Rattle.model.specs.InstructionsLaws.{Earned, Each, Alike, Fits}

earned_access : (q : Rights) (k : Access) (a : ℕ) → q.allows k a ≡ false → Earned q (denied k a)
earned_access q Access.Read a e = e
earned_access q Access.Write a e = e
earned_access q Access.Fetch a e = e

earned_denied : (q : Rights) (k : Access) (a n x : ℕ) → lowest (q.allows k) a n ≡ some x → Earned q (denied k x)
earned_denied q k a n x e = earned_access q k x (lowest_denied (q.allows k) a n x e).2

pub carry_each :
    (P : Deed → Type 0) (q : Rights) → ((r : Reason) → Earned q r → P (Deed.faults r)) → (memory : List ℕ) (p : Plan) → Each q P p
    → P (carry q memory p).deed
unfolding carry
carry_each P q f memory (Plan.ask k a n go) h =
    by_option (lowest (q.allows k) a n) (λ e. rw e (carry_each P q f memory (go (peek memory a n)) (h (peek memory a n))))
    (λ x e. rw e (f (denied k x) (earned_denied q k a n x e)))
carry_each P q f memory (Plan.store a bs c) h =
    by_option (lowest (q.allows Access.Write) a (length bs)) (λ e. rw e h)
    (λ x e. rw e (f (Reason.Write x) (earned_denied q Access.Write a (length bs) x e)))
carry_each P q f memory (Plan.pass t w c) h = by_bool (q.sends t) (λ e. rw e (h e)) (λ e. rw e (f (Reason.Channel t) e))
carry_each P q f memory (Plan.end x) h = h

pub carry_long : (q : Rights) (memory : List ℕ) (p : Plan) → length (carry q memory p).memory ≡ length memory
unfolding carry
carry_long q memory (Plan.ask k a n go) =
    by_option (lowest (q.allows k) a n) (λ e. rw e (carry_long q memory (go (peek memory a n)))) (λ x e. rw e)
carry_long q memory (Plan.store a bs c) =
    by_option (lowest (q.allows Access.Write) a (length bs)) (λ e. rw e (length-sets memory a bs)) (λ x e. rw e)
carry_long q memory (Plan.pass t w c) = by_bool (q.sends t) (λ e. rw e) (λ e. rw e)
carry_long q memory (Plan.end x) = refl

pub alike_status : {c x : Context} → Alike c x → x.status ≡ c.status
alike_status (Alike.same rs n) = refl
alike_status (Alike.took rs n) = refl

pub alike_good : {c x : Context} (count : ℕ) → Alike c x → context_good count c ≡ true → context_good count x ≡ true
unfolding context_good
alike_good count (Alike.same rs n) e = e
alike_good {c} count (Alike.took rs n) e = rw (take_waits c.status c.mailbox) (take_good count c.mailbox)

pub alike_set : {c x : Context} (r v : ℕ) → Alike c x → Alike c (set_register x r v)
alike_set r v (Alike.same rs n) = Alike.same _ _
alike_set r v (Alike.took rs n) = Alike.took _ _

jump_fits : (q : Rights) (c : Context) (target : ℕ) → Each q (Fits q c) (jump c target)
jump_fits q c target = Alike.same _ _

work_fits : (q : Rights) (e : Effect) (b : List ℕ) (c : Context) (n : ℕ) → Each q (Fits q c) (work e b c (with_counter c n))
unfolding work
work_fits q Effect.Nothing b c n = Alike.same _ _
work_fits q Effect.Set b c n = Alike.same _ _
work_fits q Effect.Copy b c n = Alike.same _ _
work_fits q Effect.Add b c n = Alike.same _ _
work_fits q Effect.Subtract b c n = Alike.same _ _
work_fits q Effect.And b c n = Alike.same _ _
work_fits q Effect.Or b c n = Alike.same _ _
work_fits q Effect.Xor b c n = Alike.same _ _
work_fits q Effect.Less b c n = Alike.same _ _
work_fits q Effect.LoadByte b c n = λ got. Alike.same _ _
work_fits q Effect.LoadWord b c n = λ got. Alike.same _ _
work_fits q Effect.StoreByte b c n = Alike.same _ _
work_fits q Effect.StoreWord b c n = Alike.same _ _
work_fits q Effect.Jump b c n = jump_fits q c _
work_fits q Effect.JumpIf b c n =
    by_bool (eqb (register c (get_or b 0 0)) 0) (λ e. rw e (Alike.same _ _)) (λ e. rw e (jump_fits q c _))
work_fits q Effect.JumpTo b c n = jump_fits q c _
work_fits q Effect.Send b c n = λ e. (e, Alike.same _ _)
work_fits q Effect.Receive b c n = by_bool (full c.mailbox) (λ e. rw e (Alike.took _ _)) (λ e. rw e)
work_fits q Effect.Advance b c n = Alike.same _ _
work_fits q Effect.Halt b c n = tt

checked_fits : (q : Rights) (c : Context) (rs : List ℕ) (p : Plan) → Each q (Fits q c) p → Each q (Fits q c) (checked rs p)
unfolding checked
checked_fits q c [] p h = h
checked_fits q c (r ∷ rs) p h = by_bool (leb r 7) (λ e. rw e (checked_fits q c rs p h)) (λ e. rw e (leb-false r 7 e))

decode_fits : (q : Rights) (c : Context) (kind : ℕ) → Each q (Fits q c) (decode c kind)
unfolding decode worked
decode_fits q c kind =
    by_bool (leb kind 19)
    (λ e. rw e (λ b. checked_fits q c (registers_of (row_of kind).form b) _ (work_fits q (row_of kind).effect b c _)))
    (λ e. rw e (leb-false kind 19 e))

pub plan_fits : (q : Rights) (c : Context) → Each q (Fits q c) (plan c)
unfolding plan
plan_fits q c = λ got. decode_fits q c (get_or got 0 0)
