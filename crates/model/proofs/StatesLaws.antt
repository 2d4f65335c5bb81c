-- Laws of States: contexts and well-formedness.
--     context_same, context_other, put_long, ready_put     a context, their number and readiness, after a context is put
--     Good                           the facts that `well-formed count s ≡ true` gives, by `good`, and that give it, by `formed`
--     fill_good, take_good           boxes that stay good;  status_good, received_good: contexts
-- Assumes nothing.
use Rattle.std.specs.Prelude.{ℕ, zero, suc, ◌+◌, ◌-◌, ◌≤◌, ◌<◌, ◌≡◌, refl, ◌≢◌, Bool, true, false, ◌&&◌, not, leb, ltb, eqb, length, get_or, if◌then◌else◌}
use Rattle.std.proofs.Common.{sym, subst, arith, length-set, get_or-set_same, get_or-set_other, ltb-true, ltb-false, leb-true, eqb-true, lt-ltb, le-ltb, le-leb, eq-eqb, ne_eqb}
use Rattle.std.proofs.Math.Bool.{and-false}
use Rattle.std.proofs.lemmas.Bool.{eqb-false, not-true}
use Rattle.model.specs.Map.{most}
use Rattle.model.proofs.BasicsLaws.{by_bool, and_left, and_right, and_both, or_neither}
use Rattle.model.specs.States.{full, fill, take_word, missing, with_status, is_ready, is_waiting, woken, received, context, put, ready, any_ready, active_good, box_good, context_good, is_blank, contexts_good, well_formed}
use Rattle.model.specs.declared.state.Status.{Status}
use Rattle.model.specs.declared.state.Mailbox.{Mailbox}
use Rattle.model.specs.declared.state.Context.{Context}
use Rattle.model.specs.declared.state.State.{State}
use Rattle.model.specs.StatesLaws.{Led, Held, Good}

-- ---- a context is put

pub context_same : (s : State) (d : ℕ) (c : Context) → 1 ≤ d → d ≤ length s.contexts → context (put s d c) d ≡ c
context_same s d c l h = get_or-set_same s.contexts (d - 1) c missing (omega arith)

pub context_other : (s : State) (d e : ℕ) (c : Context) → 1 ≤ d → 1 ≤ e → e ≢ d → context (put s d c) e ≡ context s e
context_other s d e c l h n = get_or-set_other s.contexts (d - 1) (e - 1) c missing (omega arith)

pub put_long : (s : State) (d : ℕ) (c : Context) → length (put s d c).contexts ≡ length s.contexts
put_long s d c = length-set s.contexts (d - 1) c

-- both at once, for whatever is said of a context
pub each_put :
    (P : Context → Type 0) (s : State) (d e : ℕ) (c : Context) → 1 ≤ d → d ≤ length s.contexts → 1 ≤ e
    → (e ≡ d → P c) → (e ≢ d → P (context s e)) → P (context (put s d c) e)
each_put P s d e c l h k p q =
    by_bool (eqb e d)
    (λ t. let f : e ≡ d = eqb-true e d t in
    subst (λ (x : ℕ). P (context (put s d c) x)) (sym f) (rw (context_same s d c l h) (p f)))
    (λ t. let f : e ≢ d = eqb-false e d t in rw (context_other s d e c l k f) (q f))

pub ready_put :
    (v : Bool) (s : State) (d e : ℕ) (c : Context) → 1 ≤ d → d ≤ length s.contexts → 1 ≤ e → ready s e ≡ v
    → (ready s d ≡ v → is_ready c.status ≡ v) → ready (put s d c) e ≡ v
ready_put v s d e c l h k r f =
    each_put (λ x. is_ready x.status ≡ v) s d e c l h k (λ q. f (rw q at r)) (λ _. r)

-- the context of domain n + 1 stands at place n
place : (s : State) (n : ℕ) → get_or s.contexts n missing ≡ context s (n + 1)
place s n = let e : n + 1 - 1 ≡ n = omega arith in rw e

-- ---- "Well formed"

pub none_ready : (s : State) (n d : ℕ) → any_ready s n ≡ false → 1 ≤ d → d ≤ n → ready s d ≡ false
unfolding any_ready
none_ready s zero d e l h = absurd (omega arith)
none_ready s (suc n) d e l h =
    let p = or_neither (is_ready (get_or s.contexts n missing).status) (any_ready s n) e in
    by_bool (eqb d (n + 1))
    (λ t. rw (eqb-true d (n + 1) t, ← place s n) p.0)
    (λ t. let f : d ≢ n + 1 = eqb-false d (n + 1) t in none_ready s n d p.1 l (omega arith))

pub not_any_ready : (s : State) (n : ℕ) → ((d : ℕ) → 1 ≤ d → d ≤ n → ready s d ≡ false) → any_ready s n ≡ false
unfolding any_ready
not_any_ready s zero h = refl
not_any_ready s (suc n) h =
    rw (place s n, h (n + 1) (omega arith) (omega arith)) (not_any_ready s n (λ d l k. h d l (omega arith)))

-- the context at place k, one of a domain or past them
abbrev place_good : ℕ → State → ℕ → Bool
place_good count s k =
    if ltb k count then context_good count (get_or s.contexts k missing) else is_blank (get_or s.contexts k missing)

place_at : (count : ℕ) (s : State) (n k : ℕ) → contexts_good count s n ≡ true → k < n → place_good count s k ≡ true
unfolding contexts_good
place_at count s zero k e h = absurd (omega arith)
place_at count s (suc n) k e h =
    by_bool (ltb k n) (λ l. place_at count s n k (and_right (place_good count s n) _ e) (ltb-true k n l))
    (λ l. let q : n ≡ k = omega (arith, ltb-false k n l) in
    rw q at (and_left (place_good count s n) (contexts_good count s n) e))

places_from : (count : ℕ) (s : State) (n : ℕ) → ((k : ℕ) → k < n → place_good count s k ≡ true) → contexts_good count s n ≡ true
unfolding contexts_good
places_from count s zero h = refl
places_from count s (suc n) h = and_both (h n (omega arith)) (places_from count s n (λ k a. h k (omega arith)))

pub led : (count : ℕ) (s : State) → active_good count s ≡ true → Led count s
unfolding active_good
led count s e =
    let t = if eqb s.active 0 then not (any_ready s count) else ready s s.active in
    let r : t ≡ true = and_right (leb s.active count) t e in
    record {
      active = leb-true _ _ (and_left (leb s.active count) t e);
      idle = λ z d l h. none_ready s count d (not-true _ (rw (eq-eqb s.active 0 z) at r)) l h;
      runs = λ l. rw (ne_eqb s.active 0 (omega arith)) at r;
    }

pub held : (count : ℕ) (s : State) → contexts_good count s most ≡ true → count ≤ most → Held count s
held count s e f =
    record {
      present = λ d l h. rw (lt-ltb (d - 1) count (omega arith)) at (place_at count s most (d - 1) e (omega arith));
      past = λ d l h. rw (le-ltb (d - 1) count (omega arith)) at (place_at count s most (d - 1) e (omega arith));
    }

pub good : (count : ℕ) (s : State) → well_formed count s ≡ true → count ≤ most → Good count s
unfolding well_formed
good count s e f =
    record {
      led = led count s (and_left _ (contexts_good count s most) e);
      held = held count s (and_right (active_good count s) _ e) f;
    }

leads : (count : ℕ) (s : State) → Led count s → active_good count s ≡ true
unfolding active_good
leads count s g =
    and_both (le-leb _ _ g.active)
    (by_bool (eqb s.active 0)
    (λ t. rw (t, not_any_ready s count (g.idle (eqb-true s.active 0 t))))
    (λ t. let f : s.active ≢ 0 = eqb-false s.active 0 t in rw t (g.runs (omega arith))))

holds : (count : ℕ) (s : State) → Held count s → contexts_good count s most ≡ true
holds count s g =
    places_from count s most
    (λ k h. by_bool (ltb k count)
    (λ t. rw (t, place s k) (g.present (k + 1) (omega arith) (omega (arith, ltb-true k count t))))
    (λ t. rw (t, place s k) (g.past (k + 1) (omega (arith, ltb-false k count t)) (omega arith))))

pub formed : (count : ℕ) (s : State) → Good count s → well_formed count s ≡ true
unfolding well_formed
formed count s g = and_both (leads count s g.led) (holds count s g.held)

-- ---- boxes and contexts that stay good

pub fill_good : (count : ℕ) (b : Mailbox) (w from : ℕ) → from ≤ count → box_good count (fill b w from) ≡ true
unfolding box_good
fill_good count b w from h = le-leb from count h

pub take_good : (count : ℕ) (b : Mailbox) → box_good count (take_word b) ≡ true
unfolding box_good
take_good count b = refl

-- once its word is taken, a box does not stand in the way of waiting
pub take_waits : (x : Status) (b : Mailbox) → is_waiting x && full (take_word b) ≡ false
take_waits x b = and-false (is_waiting x)

-- a status other than waiting, or an empty box
pub status_good :
    (count : ℕ) (c : Context) (x : Status) → context_good count c ≡ true → is_waiting x && full c.mailbox ≡ false
    → context_good count (with_status c x) ≡ true
unfolding context_good
status_good count c x g e = rw e (and_right (not (is_waiting c.status && full c.mailbox)) _ g)

woken_waiting : (x : Status) → is_waiting (woken x) ≡ false
woken_waiting Status.Halted = refl
woken_waiting Status.Ready = refl
woken_waiting Status.Waiting = refl
woken_waiting (Status.Faulted r) = refl

pub received_good : (count : ℕ) (c : Context) (w from : ℕ) → from ≤ count → context_good count (received c w from) ≡ true
unfolding context_good
received_good count c w from h = rw (woken_waiting c.status) (fill_good count c.mailbox w from h)

pub woken_ready : (x : Status) → is_ready x ≡ true → is_ready (woken x) ≡ true
woken_ready Status.Halted e = e
woken_ready Status.Ready e = e
woken_ready Status.Waiting e = refl
woken_ready (Status.Faulted r) e = e
