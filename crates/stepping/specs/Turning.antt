-- The loop over steps, turn by turn: what it keeps, and its ends.
--     performed       an instruction leaves as many contexts, and one of the domains or none active
--     turning_place, turning_receiver   the active domain has its place, and a word is sent to one of the domains
--     turning_on      a stretch of the active domain and its last instruction;  turning_spent, turning_idle: the ends of the loop
-- Assumes nothing.
use Rattle.std.specs.Prelude.{◌≡◌, ℕ, zero, suc, ◌-◌, ◌≤◌, ◌<◌, refl, Bool, List, [], length, get_or}
use Rattle.std.proofs.Common.{sym, subst, ap, ◌∙◌, arith, eq-eqb}
use Rattle.model.proofs.BasicsLaws.{by_bool, and_left}
use Rattle.model.specs.Map.{most, Grid, is_domain, domain}
use Rattle.model.proofs.MapLaws.{in_range}
use Rattle.model.specs.States.{full, set_register, received, own, put_own, context, put, switch}
use Rattle.model.proofs.StatesLaws.{context_same, put_long}
use Rattle.model.proofs.SwitchLaws.{found_within}
use Rattle.model.specs.Instructions.{Deed, kept}
use Rattle.model.specs.Events.{Outcome, gives, sent, perform}
use Rattle.model.specs.EventsLaws.{acts}
use Rattle.model.specs.declared.map.Map.{Map}
use Rattle.model.specs.declared.state.Context.{Context}
use Rattle.model.specs.declared.state.State.{State}
use Rattle.model.specs.declared.event.Answer.{Answer}
use Rattle.instructions.specs.Told.{loaded, deed}
use Rattle.instructions.specs.Steps.{going, steps, onward, come, Granted, Stretches}
use Rattle.instructions.specs.StepsLaws.{steps_acts}
use Rattle.instructions.specs.declared.went.Ran.{Ran}
use Rattle.instructions.specs.declared.went.Went.{Went}

abbrev pub Stays : ℕ → ℕ → State → Type 0
Stays count long s = (s.active ≤ count) × (length s.contexts ≡ long)

put_stays : (count : ℕ) (s : State) (d : ℕ) (c : Context) → s.active ≤ count → Stays count (length s.contexts) (put s d c)
put_stays count s d c h = (h, put_long s d c)

switch_stays : (count : ℕ) (s : State) (c : Context) → 1 ≤ count → Stays count (length s.contexts) (switch count (put_own s c))
unfolding switch
switch_stays count s c h = (found_within count (put_own s c) count s.active h, put_long s s.active c)

performed :
    (count : ℕ) (s : State) (memory : List ℕ) (x : Deed) → 1 ≤ count → s.active ≤ count
    → Stays count (length s.contexts) (perform count s memory x).state
unfolding perform sent
performed count s memory (Deed.runs c) h a = put_stays count s s.active c a
performed count s memory (Deed.gives_way c) h a = switch_stays count s c h
performed count s memory Deed.waits h a = switch_stays count s _ h
performed count s memory Deed.halts h a = switch_stays count s _ h
performed count s memory (Deed.faults r) h a = switch_stays count s _ h
performed count s memory (Deed.sends t w c) h a =
    let u = put_own s (set_register c 0 1) in
    by_bool (full (context s t).mailbox)
    (λ f. rw f (put_stays count s s.active (set_register c 0 0) a))
    (λ f. rw f (a, put_long u t (received (context u t) w s.active) ∙ put_long s s.active (set_register c 0 1)))

module _ (m : Map) (g : Grid) (s : State) (memory₀ : List ℕ) (limit : ℕ) where
  -- the steps from here are those from the start
  pub record Turning (memory : List ℕ) (t : State) (left : ℕ) (answer : Answer) : Type 0 where
    pub long : length t.contexts ≡ most
    pub counted : m.count ≤ most
    pub some : 1 ≤ m.count
    pub within : t.active ≤ m.count
    pub rest : steps m g t memory answer left ≡ steps m g s memory₀ Answer.Idle limit

  module _ (memory : List ℕ) (t : State) (left : ℕ) (answer : Answer) (T : Turning memory t left answer) where
    -- the active domain has its place among the most that there are
    pub turning_place : 1 ≤ t.active → t.active - 1 < most
    turning_place busy = omega (arith, T.within, T.counted)

    -- a word is sent to one of the domains
    pub turning_receiver :
        (row : List Bool) (x : Went) (to w k : ℕ) → x ≡ Went.Sends to w k → Granted m.count row x → (1 ≤ to) × (to ≤ most)
    turning_receiver row x to w k i f =
        let r = in_range m.count to (and_left (is_domain m.count to) _ (subst (Granted m.count row) i f)) in
        (r.0, omega (arith, r.1, T.counted))

    pub turning_spent : left ≡ 0 → going left answer t memory ≡ steps m g s memory₀ Answer.Idle limit
    unfolding steps
    turning_spent e = rw e (rw e at T.rest)

    pub turning_idle : t.active ≡ 0 → going left answer t memory ≡ steps m g s memory₀ Answer.Idle limit
    unfolding steps
    turning_idle e = idle left T.rest where
      idle : (n : ℕ) → steps m g t memory answer n ≡ steps m g s memory₀ Answer.Idle limit → going n answer t memory ≡ steps m g s memory₀ Answer.Idle limit
      idle zero r = r
      idle (suc n) r = rw (eq-eqb t.active 0 e) at r

    -- the active domain has run a stretch, and its last instruction went so
    module _
        (more : 0 < left) (busy : 1 ≤ t.active) (r : Ran) (rs' memory' : List ℕ)
        (f : Stretches (domain m t.active) m.count (get_or g (t.active - 1) []) (own t).registers (own t).counter memory left r rs' memory')
      where
        there : t.active ≤ length t.contexts
        there = omega (arith, T.within, T.counted, T.long)

        pub turning_on :
            (answer' : Answer) (t' : State)
            → let u = come t rs' r.counter in
            ((after : List ℕ) → gives answer' t' after ≡ perform m.count u after (deed (own u) (own u).registers r.went))
            → Turning memory' t' r.left answer'
        turning_on answer' t' h =
            let u = come t rs' r.counter in
            let d = t.active in
            let more' : suc (left - 1) ≡ left = omega arith in
            let own_there : own u ≡ loaded (own t) rs' r.counter = context_same t d (loaded (own t) rs' r.counter) busy there in
            let told : gives answer' t' memory' ≡ acts m.count u (kept memory' (deed (loaded (own t) rs' r.counter) rs' r.went)) = rw own_there at h memory' in
            let kept_so = performed m.count u memory' (deed (loaded (own t) rs' r.counter) rs' r.went) T.some T.within in
            let stays = subst (λ (o : Outcome). Stays m.count most o.state) (sym told) (kept_so.0, kept_so.1 ∙ put_long t d (loaded (own t) rs' r.counter) ∙ T.long) in
            record {
              long = stays.1;
              counted = T.counted;
              some = T.some;
              within = stays.0;
              rest =
                  ap (λ o. onward m g o r.left) told
                  ∙ sym
                  (ap (λ n. steps m g t memory answer n) (sym more')
                  ∙ steps_acts m g t memory answer (left - 1) busy
                  ∙ sym (steps_acts m g t memory (Answer.Ran d) (left - 1) busy)
                  ∙ ap (λ n. steps m g t memory (Answer.Ran d) n) more'
                  ∙ f.0 m g t (record { some = busy; there = there; part = refl; counted = refl; marks = refl; registers = refl; counter = refl }))
                  ∙ T.rest;
            }
