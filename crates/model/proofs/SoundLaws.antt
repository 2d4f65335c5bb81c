-- Laws of States: what keeps a state well formed.
--     Steady           what a state of an accepted map has throughout an event
--     Sound            what it has between events; what is put and switched leaves it so
--     start_sound      the start has it
-- Assumes nothing.
use Rattle.std.specs.Prelude.{ℕ, zero, suc, ◌+◌, ◌-◌, ◌≤◌, ◌<◌, ◌≡◌, refl, ◌≢◌, List, true, false, eqb, length, get_or, set, replicate}
use Rattle.std.proofs.Common.{◌∙◌, arith, length-set, get_or-set_same, get_or-set_other, eqb-true}
use Rattle.std.proofs.lemmas.List.{get_or-replicate}
use Rattle.std.proofs.lemmas.Bool.{eqb-false}
use Rattle.model.specs.Map.{most, nth}
use Rattle.model.proofs.BasicsLaws.{by_bool}
use Rattle.model.specs.States.{blank, missing, is_ready, put, with_active, ready, at_entry, seated, start, box_good, context_good, zeros, is_blank, well_formed, switch}
use Rattle.model.proofs.StatesLaws.{put_long, each_put, ready_put, good, formed}
use Rattle.model.proofs.SwitchLaws.{switch_led}
use Rattle.model.specs.declared.map.Map.{Map}
use Rattle.model.specs.declared.state.Context.{Context}
use Rattle.model.specs.declared.state.State.{State}
use Rattle.model.specs.SoundLaws.{Steady, Sound}

pub sound :
    {count : ℕ} {s : State} → 1 ≤ count → count ≤ most → length s.contexts ≡ most → well_formed count s ≡ true → Sound count s
sound {count} {s} a b n e =
    let g = good count s e b in record { steady = record { some = a; few = b; long = n; held = g.held }; led = g.led }

pub sound_formed : {count : ℕ} {s : State} → Sound count s → well_formed count s ≡ true
sound_formed {count} {s} h = formed count s (record { led = h.led; held = h.steady.held })

-- contexts do not depend on who is active
steady_active : {count : ℕ} {s : State} (a : ℕ) → Steady count s → Steady count (with_active s a)
steady_active a h =
    record { some = h.some; few = h.few; long = h.long; held = record { present = h.held.present; past = h.held.past } }

pub steady_put :
    {count : ℕ} {s : State} (d : ℕ) (c : Context) → Steady count s → 1 ≤ d → d ≤ count → context_good count c ≡ true
    → Steady count (put s d c)
steady_put {count} {s} d c h l k e =
    record {
      some = h.some;
      few = h.few;
      long = put_long s d c ∙ h.long;
      held = record {
        present = λ n p q.
            each_put (λ x. context_good count x ≡ true) s d n c l (omega arith) p (λ _. e) (λ _. h.held.present n p q);
        past = λ n p q.
            each_put (λ x. is_blank x ≡ true) s d n c l (omega arith) (omega arith) (λ f. absurd (omega arith))
            (λ _. h.held.past n p q);
      };
    }

pub sound_put :
    {count : ℕ} {s : State} (d : ℕ) (c : Context) → Sound count s → 1 ≤ d → d ≤ count → context_good count c ≡ true
    → (s.active ≡ 0 → ready s d ≡ false → is_ready c.status ≡ false)
    → (ready s d ≡ true → is_ready c.status ≡ true) → Sound count (put s d c)
sound_put {count} {s} d c h l k e f t =
    record {
      steady = steady_put d c h.steady l k e;
      led = record {
        active = h.led.active;
        idle = λ z n p q. ready_put false s d n c l (omega arith) p (h.led.idle z n p q) (f z);
        runs = λ a. ready_put true s d s.active c l (omega arith) a (h.led.runs a) t;
      };
    }

-- whatever the active domain has become
pub sound_switch : {count : ℕ} {s : State} → Steady count s → s.active ≤ count → Sound count (switch count s)
unfolding switch
sound_switch {count} {s} h a = record { steady = steady_active _ h; led = switch_led count s h.some a }

pub sound_roused :
    {count : ℕ} {s : State} (d : ℕ) → Steady count s → 1 ≤ d → d ≤ count → ready s d ≡ true → Sound count (with_active s d)
sound_roused d h l k r =
    record { steady = steady_active d h; led = record { active = k; idle = λ z. absurd (omega arith); runs = λ _. r } }

-- ---- the start

seated_long : (cs : List Context) (m : Map) (i n : ℕ) → length (seated cs m i n) ≡ length cs
unfolding seated
seated_long cs m i zero = refl
seated_long cs m i (suc n) = seated_long _ m (i + 1) n ∙ length-set cs i _

seated_other :
    (cs : List Context) (m : Map) (i n k : ℕ) → ((j : ℕ) → j < n → k ≢ i + j)
    → get_or (seated cs m i n) k missing ≡ get_or cs k missing
unfolding seated
seated_other cs m i zero k f = refl
seated_other cs m i (suc n) k f =
    seated_other _ m (i + 1) n k (λ j h. omega (arith, f (suc j) (omega arith)))
    ∙ get_or-set_other cs i k _ missing (omega (arith, f 0 (omega arith)))

seated_at :
    (cs : List Context) (m : Map) (i n k : ℕ) → i + n ≤ length cs → i ≤ k → k < i + n
    → get_or (seated cs m i n) k missing ≡ at_entry (nth m k).entry
unfolding seated
seated_at cs m i zero k h a b = absurd (omega arith)
seated_at cs m i (suc n) k h a b =
    let c = at_entry (nth m i).entry in
    by_bool (eqb k i)
    (λ t. rw (eqb-true k i t)
    (seated_other (set cs i c) m (i + 1) n i (λ j _. omega arith) ∙ get_or-set_same cs i c missing (omega arith)))
    (λ t. let f : k ≢ i = eqb-false k i t in
    seated_at (set cs i c) m (i + 1) n k (rw length-set (omega arith)) (omega arith) (omega arith))

at_start :
    (m : Map) (k : ℕ) → m.count ≤ most → k < m.count → get_or (start m).contexts k missing ≡ at_entry (nth m k).entry
unfolding start
at_start m k f h = seated_at (replicate most blank) m 0 m.count k (omega arith) (omega arith) (omega arith)

past_start : (m : Map) (k : ℕ) → m.count ≤ k → k < most → get_or (start m).contexts k missing ≡ blank
unfolding start
past_start m k f h =
    seated_other (replicate most blank) m 0 m.count k (λ j q. omega arith) ∙ get_or-replicate most k blank missing h

pub start_sound : (m : Map) → 1 ≤ m.count → m.count ≤ most → Sound m.count (start m)
unfolding start context_good box_good is_blank zeros
start_sound m a b =
    record {
      steady = record {
        some = a;
        few = b;
        long = seated_long (replicate most blank) m 0 m.count;
        held = record {
          present = λ d l h. rw (at_start m (d - 1) b (omega arith));
          past = λ d l h. rw (past_start m (d - 1) (omega arith) (omega arith));
        };
      };
      led = record { active = a; idle = λ z. absurd (omega arith); runs = λ _. rw (at_start m 0 b a) };
    }
