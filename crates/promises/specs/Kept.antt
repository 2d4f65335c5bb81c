-- Document 01, "The state" and "Events": the start is well formed, and every event and every run keeps a state so,
-- with as many contexts and as much memory.
-- Assumes nothing.
use Rattle.std.specs.Prelude.{ℕ, ◌≤◌, ◌≡◌, refl, ◌≢◌, true, false, ◌&&◌, List, [], ◌∷◌, eqb, length, Ok}
use Rattle.std.proofs.Common.{ap, ◌∙◌, arith, eq-eqb}
use Rattle.std.proofs.lemmas.Bool.{eqb-false}
use Rattle.model.specs.Map.{most, Grid, Rights, is_domain, rights}
use Rattle.model.specs.Refusals.{accepts}
use Rattle.model.specs.States.{full, is_ready, is_waiting, woken, with_status, received, context, own, put_own, start, well_formed, switch}
use Rattle.model.specs.Instructions.{Deed, plan}
use Rattle.model.specs.Events.{Outcome, delivered, sent, perform, step, tick, roused, word_in, event, run}
use Rattle.model.proofs.BasicsLaws.{by_bool, either, and_right}
use Rattle.model.proofs.MapLaws.{in_range, granted_domain}
use Rattle.model.proofs.RefusalsLaws.{acceptable}
use Rattle.model.proofs.StatesLaws.{context_same, status_good, received_good, woken_ready}
use Rattle.model.specs.SoundLaws.{Sound}
use Rattle.model.proofs.SoundLaws.{sound, sound_formed, steady_put, sound_put, sound_switch, sound_roused, start_sound}
use Rattle.model.specs.InstructionsLaws.{Alike, Fits}
use Rattle.model.proofs.InstructionsLaws.{carry_each, carry_long, plan_fits, alike_status, alike_good, alike_set}
use Rattle.model.specs.declared.map.Map.{Map}
use Rattle.model.specs.declared.state.Status.{Status}
use Rattle.model.specs.declared.state.Context.{Context}
use Rattle.model.specs.declared.state.State.{State}
use Rattle.model.specs.declared.event.Event.{Event}
use Rattle.promises.specs.CaseL.{L_map, L_grid, L_acceptable, L_well_formed}

pub start_formed :
    (m : Map) (g : Grid) → accepts m g ≡ Ok tt
    → (well_formed m.count (start m) ≡ true) × (length (start m).contexts ≡ most)
start_formed m g e =
    let a = acceptable m g e in
    let h = start_sound m a.some a.few in (sound_formed h, h.steady.long)

-- what is shown of every outcome
abbrev pub Keeps : ℕ → ℕ → Outcome → Type 0
Keeps count long o = Sound count o.state × (length o.memory ≡ long)

-- ---- a word in a box

-- the receiver wakes while another domain is active, or sleeps on
delivered_sound :
    {count : ℕ} {s : State} (t w from : ℕ) → Sound count s → 1 ≤ t → t ≤ count → from ≤ count
    → (s.active ≡ 0 → is_waiting (context s t).status ≡ false) → Sound count (delivered s t w from)
delivered_sound {count} {s} t w from h l k b f =
    sound_put t _ h l k (received_good count (context s t) w from b) (λ z r. rw (f z) r) (woken_ready (context s t).status)

-- ---- a step

-- the active domain's context with other registers and counter, or with its box emptied
ran_sound :
    {count : ℕ} {s : State} (c : Context) → Sound count s → 1 ≤ s.active → Alike (own s) c
    → Sound count (put_own s c)
ran_sound {count} {s} c h a k =
    sound_put s.active c h a h.led.active (alike_good count k (h.steady.held.present s.active a h.led.active))
    (λ z. absurd (omega arith)) (λ r. rw (alike_status k) r)

-- its status set, and a switch
stopped_sound :
    {count : ℕ} {s : State} (x : Status) → Sound count s → 1 ≤ s.active
    → is_waiting x && full (own s).mailbox ≡ false
    → Sound count (switch count (put_own s (with_status (own s) x)))
stopped_sound {count} {s} x h a e =
    let g = h.steady.held.present s.active a h.led.active in
    let c = status_good count (own s) x g e in
    sound_switch (steady_put s.active _ h.steady a h.led.active c) h.led.active

sent_sound :
    {count : ℕ} {s : State} (t w : ℕ) (c : Context) → Sound count s → 1 ≤ s.active → is_domain count t ≡ true
    → Alike (own s) c → Sound count (sent s t w c)
unfolding sent
sent_sound {count} {s} t w c h a e k =
    let r = in_range count t e in
    either (Sound count) (full (context s t).mailbox) (ran_sound _ h a (alike_set 0 0 k))
    (delivered_sound t w s.active (ran_sound _ h a (alike_set 0 1 k)) r.0 r.1 h.led.active (λ z. absurd (omega arith)))

perform_keeps :
    (q : Rights) (count n : ℕ) (s : State) (memory : List ℕ) (x : Deed) → Sound count s → 1 ≤ s.active
    → ((t : ℕ) → q.sends t ≡ true → is_domain count t ≡ true) → Fits q (own s) x → length memory ≡ n
    → Keeps count n (perform count s memory x)
unfolding perform
perform_keeps q count n s memory (Deed.runs c) h a p k l = (ran_sound c h a k, l)
perform_keeps q count n s memory (Deed.gives_way c) h a p k l = (sound_switch (ran_sound c h a k).steady h.led.active, l)
perform_keeps q count n s memory Deed.waits h a p k l = (stopped_sound Status.Waiting h a k, l)
perform_keeps q count n s memory Deed.halts h a p k l = (stopped_sound Status.Halted h a refl, l)
perform_keeps q count n s memory (Deed.faults r) h a p k l = (stopped_sound (Status.Faulted r) h a refl, l)
perform_keeps q count n s memory (Deed.sends t w c) h a p k l = (sent_sound t w c h a (p t k.0) k.1, l)

step_keeps :
    (m : Map) (g : Grid) (s : State) (memory : List ℕ) → Sound m.count s → Keeps m.count (length memory) (step m g s memory)
unfolding step
step_keeps m g s memory h =
    let q = rights m g s.active in
    let c = own s in
    by_bool (eqb s.active 0) (λ e. rw e (h, refl))
    (λ e. let f : s.active ≢ 0 = eqb-false s.active 0 e in
    rw e (perform_keeps q m.count (length memory) s _ _ h (omega arith) (granted_domain m.count g s.active)
    (carry_each (Fits q c) q (λ r e. e) memory (plan c) (plan_fits q c)) (carry_long q memory (plan c))))

-- ---- a tick, a word in

tick_keeps : (count : ℕ) (s : State) (memory : List ℕ) → Sound count s → Keeps count (length memory) (tick count s memory)
unfolding tick
tick_keeps count s memory h =
    either (Keeps count (length memory)) (eqb s.active 0) (h, refl) (sound_switch h.steady h.led.active, refl)

roused_sound :
    (count : ℕ) (s : State) (b w : ℕ) → Sound count s → 1 ≤ b → b ≤ count → Sound count (roused s b (delivered s b w 0))
roused_sound count s b w h l k =
    let x = (context s b).status in
    let c = received (context s b) w 0 in
    by_bool (eqb s.active 0 && is_waiting x)
    (λ t. let r : is_ready (woken x) ≡ true = rw (and_right (eqb s.active 0) (is_waiting x) t) in
    let p = steady_put b c h.steady l k (received_good count (context s b) w 0 (omega arith)) in
    rw t (sound_roused b p l k (ap (λ c. is_ready c.status) (context_same s b c l (omega arith)) ∙ r)))
    (λ t. rw t (delivered_sound b w 0 h l k (omega arith) (λ z. rw (eq-eqb s.active 0 z) at t)))

word_in_keeps :
    (count : ℕ) (s : State) (memory : List ℕ) (b w : ℕ) → Sound count s → Keeps count (length memory) (word_in count s memory b w)
unfolding word_in
word_in_keeps count s memory b w h =
    by_bool (is_domain count b)
    (λ e. let r = in_range count b e in
    rw e (either (Keeps count (length memory)) (full (context s b).mailbox) (h, refl) (roused_sound count s b w h r.0 r.1, refl)))
    (λ e. rw e (h, refl))

-- ---- any event, any run

pub each_keeps :
    (m : Map) (g : Grid) (s : State) (memory : List ℕ) (e : Event) → Sound m.count s
    → Keeps m.count (length memory) (event m g s memory e)
unfolding event
each_keeps m g s memory Event.Step h = step_keeps m g s memory h
each_keeps m g s memory Event.Tick h = tick_keeps m.count s memory h
each_keeps m g s memory (Event.WordIn b w) h = word_in_keeps m.count s memory b w h

pub event_keeps :
    (m : Map) (g : Grid) → accepts m g ≡ Ok tt → (s : State) (memory : List ℕ) (e : Event)
    → length s.contexts ≡ most → well_formed m.count s ≡ true
    → (well_formed m.count (event m g s memory e).state ≡ true)
    × (length (event m g s memory e).state.contexts ≡ most) × (length (event m g s memory e).memory ≡ length memory)
event_keeps m g a s memory e l f =
    let k = acceptable m g a in
    let h = each_keeps m g s memory e (sound k.some k.few l f) in (sound_formed h.0, h.0.steady.long, h.1)

pub run_keeps :
    (m : Map) (g : Grid) → accepts m g ≡ Ok tt → (s : State) (memory : List ℕ) (es : List Event)
    → length s.contexts ≡ most → well_formed m.count s ≡ true
    → (well_formed m.count (run m g s memory es).state ≡ true)
    × (length (run m g s memory es).state.contexts ≡ most) × (length (run m g s memory es).memory ≡ length memory)
unfolding run
run_keeps m g a s memory [] l f = (f, l, refl)
run_keeps m g a s memory (e ∷ es) l f =
    let k = event_keeps m g a s memory e l f in
    let r = run_keeps m g a (event m g s memory e).state (event m g s memory e).memory es k.1 k.0 in
    (r.0, r.1, r.2 ∙ k.2)

-- Case L's map and start meet the premises of both
pub L_starts_formed : (well_formed 2 (start L_map) ≡ true) × (length (start L_map).contexts ≡ most)
L_starts_formed = start_formed L_map L_grid L_acceptable

pub L_stays_formed :
    (memory : List ℕ) (es : List Event) → well_formed 2 (run L_map L_grid (start L_map) memory es).state ≡ true
L_stays_formed memory es = (run_keeps L_map L_grid L_acceptable (start L_map) memory es L_starts_formed.1 L_well_formed).0
