-- What the definitions that go down a number come to in the code: a chain over a list, or one turn of a loop.
--     segment         a definition that asks each place from a on is `list_all` there;
--     zeros_equal, none_ready, contexts_split     so these three are
--     all_same        an array whose elements are all a;  zeros_default, is_context, is_state: so a default value is the zero one
--     first_turn      one turn of the search for a ready domain
--     seated_turn     one turn of the start, and seated_all its end;  seated_most: where there may be more domains than contexts
-- Assumes nothing.
use Rattle.std.specs.Prelude.{◌≡◌, ℕ, zero, suc, ◌+◌, ◌-◌, ◌≤◌, ◌<◌, Bool, true, false, ◌&&◌, ◌||◌, not, List, [], ◌∷◌, length, get_or, set, min, leb, take, drop, refl, replicate, eqb, if◌then◌else◌, nat_eq}
use Rattle.std.proofs.Common.{arith, sym, ◌∙◌, ap, lt-ltb, le-ltb, leb-true, leb-false, add-one, add-zero, zero-add, length-drop}
use Rattle.std.specs.Array.{AllOfLen}
use Rattle.std.specs.List.{list_all}
use Rattle.std.specs.Cmp.Lexicographic.{pointwise}
use Rattle.std.proofs.lemmas.List.{ext_get_or, length-replicate, get_or-replicate, get_or-drop, take_all, set_past}
use Rattle.std.proofs.lemmas.List.Folds.{list_all_more}
use Rattle.std.proofs.Math.Bool.{and-true, and_comm}
use Rattle.model.proofs.LoopLaws.{back}
use Rattle.model.proofs.BasicsLaws.{by_bool}
use Rattle.model.specs.Map.{most, nth}
use Rattle.model.specs.States.{missing, is_ready, any_ready, context_good, is_blank, zeros, contexts_good, blank, no_state, ready, after, first_ready, at_entry, seated, start}
use Rattle.model.specs.declared.map.Map.{Map}
use Rattle.model.specs.declared.state.Status.{Status}
use Rattle.model.specs.declared.state.Context.{Context}
use Rattle.model.specs.declared.state.State.{State}

-- ---- chains

swap_and : (x y z : Bool) → x && (y && z) ≡ (y && x) && z
swap_and true true z = refl
swap_and true false z = refl
swap_and false true z = refl
swap_and false false z = refl

not_or : (x y : Bool) → not (x || y) ≡ (not x && not y)
not_or true y = refl
not_or false y = refl

-- k places from a on
pub segment :
    {A : Type 0} (f : ℕ → Bool) (p : A → Bool) (xs : List A) (d : A) (a k : ℕ) → a + k ≤ length xs
    → ((j : ℕ) → a ≤ j → j < a + k → f (suc j) ≡ (p (get_or xs j d) && f j)) → f (a + k) ≡ (list_all p (take k (drop a xs)) && f a)
segment f p xs d a zero h g = rw add-zero
segment f p xs d a (suc k) h g =
    let e : a + suc k ≡ suc (a + k) = omega arith in
    let more = list_all_more p (drop a xs) k d (omega (arith, length-drop a xs)) in
    let here = rw (add-one k, get_or-drop a xs k d) at more in
    let rest = segment f p xs d a k (omega arith) (λ j l r. g j l (omega arith)) in
    rw (e, g (a + k) (omega arith) (omega arith), rest, here) (swap_and (p (get_or xs (a + k) d)) (list_all p (take k (drop a xs))) (f a))

equal_zeros : (xs : List ℕ) → pointwise nat_eq xs (replicate (length xs) 0) ≡ list_all (λ x. eqb x 0) xs
equal_zeros [] = refl
equal_zeros (x ∷ xs) = ap (λ b. eqb x 0 && b) (equal_zeros xs)

pub zeros_equal : (xs : List ℕ) (n : ℕ) → length xs ≡ n → zeros xs n ≡ pointwise nat_eq xs (replicate n 0)
unfolding zeros
zeros_equal xs n h =
    let e = segment (zeros xs) (λ x. eqb x 0) xs 0 0 n (omega arith) (λ j l k. refl) in
    rw zero-add at e ∙ and-true _ ∙ rw (take_all n xs (omega arith), ← h) (sym (equal_zeros xs))

pub none_ready : (s : State) (n : ℕ) → n ≤ length s.contexts → not (any_ready s n) ≡ list_all (λ (c : Context). not (is_ready c.status)) (take n s.contexts)
unfolding any_ready
none_ready s n h =
    let e = segment (λ k. not (any_ready s k)) (λ (c : Context). not (is_ready c.status)) s.contexts missing 0 n (omega arith)
    (λ j l k. not_or (is_ready (get_or s.contexts j missing).status) (any_ready s j)) in
    rw zero-add at e ∙ and-true _

pub contexts_split :
    (count : ℕ) (s : State) → length s.contexts ≡ most → count ≤ most
    → contexts_good count s most ≡ list_all (context_good count) (take count s.contexts) && list_all is_blank (drop count s.contexts)
unfolding contexts_good
contexts_split count s l h =
    let own = segment (contexts_good count s) (context_good count) s.contexts missing 0 count (omega arith) (λ j a b. rw (lt-ltb j count (omega arith))) in
    let past = segment (contexts_good count s) is_blank s.contexts missing count (most - count) (omega arith) (λ j a b. rw (le-ltb j count a)) in
    let e : count + (most - count) ≡ most = omega arith in
    let r = rw (e, take_all (most - count) (drop count s.contexts) (omega (arith, length-drop count s.contexts))) at past in
    r ∙ rw (rw zero-add at own ∙ and-true _) (and_comm (list_all is_blank (drop count s.contexts)) (list_all (context_good count) (take count s.contexts)))

-- ---- default values

pub all_same : {A : Type 0} {P : A → Type 0} (xs : List A) (n : ℕ) (a : A) → AllOfLen P xs n → ((x : A) → P x → x ≡ a) → xs ≡ replicate n a
all_same xs n a h f =
    ext_get_or a xs (replicate n a) (h.long ∙ sym (length-replicate n a))
    (λ i l. let k : i < n = rw h.long at l in f _ (h.at i a k) ∙ sym (get_or-replicate n i a a k))

pub zeros_default : (xs : List ℕ) → AllOfLen (λ n. n ≡ 0) xs 8 → xs ≡ replicate 8 0
zeros_default xs h = all_same xs 8 0 h (λ n q. q)

same_context :
    (r : List ℕ) (n : ℕ) (x : Status) (b : Bool) (w q : ℕ) → r ≡ replicate 8 0 → n ≡ 0 → x ≡ Status.Halted → b ≡ false → w ≡ 0 → q ≡ 0
    → record { registers = r; counter = n; status = x; mailbox = record { full = b; word = w; sender = q } } ≡ blank
same_context r n x b w q e f g h i j = cc

pub is_context :
    (x : Context) → x.registers ≡ replicate 8 0 → x.counter ≡ 0 → x.status ≡ Status.Halted
    → x.mailbox.full ≡ false → x.mailbox.word ≡ 0 → x.mailbox.sender ≡ 0 → x ≡ blank
is_context x a b c d e f = same_context _ _ _ _ _ _ a b c d e f

pub is_state : (s : State) → s.active ≡ 0 → s.contexts ≡ replicate most blank → s ≡ no_state
is_state s e f = ap (λ (x : ℕ). record { active = x; contexts = s.contexts }) e ∙ ap (λ (x : List Context). record { active = 0; contexts = x }) f

-- ---- loops

pub first_turn :
    (count : ℕ) (s : State) (n d : ℕ) → 0 < n
    → first_ready count s n d ≡ (if ready s (after count d) then after count d else first_ready count s (n - 1) (after count d))
unfolding first_ready
first_turn count s zero d h = absurd (omega arith)
first_turn count s (suc n) d h = rw (back n)

pub seated_turn :
    (cs : List Context) (m : Map) (i n : ℕ) → 0 < n
    → seated cs m i n ≡ seated (set cs i (at_entry (nth m i).entry)) m (i + 1) (n - 1)
unfolding seated
seated_turn cs m i zero h = absurd (omega arith)
seated_turn cs m i (suc n) h = rw (back n)

-- a domain past the last context is put nowhere
seated_past : (cs : List Context) (m : Map) (i n : ℕ) → length cs ≤ i → seated cs m i n ≡ cs
unfolding seated
seated_past cs m i zero h = refl
seated_past cs m i (suc n) h = rw (set_past cs i (at_entry (nth m i).entry) h) (seated_past cs m (i + 1) n (omega arith))

-- all are seated, and the first is active
pub seated_all :
    (m : Map) (t : State) (i : ℕ) → m.count ≤ i → t.active ≡ 1
    → seated t.contexts m i (m.count - i) ≡ seated (replicate most blank) m 0 m.count → t ≡ start m
unfolding seated start
seated_all m t i h a e =
    let z : m.count - i ≡ 0 = omega arith in
    let f : t.contexts ≡ seated (replicate most blank) m 0 m.count = rw z at e in
    ap (λ (x : ℕ). record { active = x; contexts = t.contexts }) a ∙ ap (λ (x : List Context). record { active = 1; contexts = x }) f

-- all that have a context are seated
pub seated_most :
    (m : Map) (cs : List Context) (i : ℕ) → length cs ≡ most → min m.count most ≤ i
    → seated cs m i (m.count - i) ≡ seated (replicate most blank) m 0 m.count → record { active = 1; contexts = cs } ≡ start m
unfolding seated start
seated_most m cs i l h e =
    let f : seated cs m i (m.count - i) ≡ cs =
    by_bool (leb m.count most)
    (λ b. let few = leb-true m.count most b in let none : m.count - i ≡ 0 = omega arith in rw none)
    (λ b. let more = leb-false m.count most b in seated_past cs m i (m.count - i) (omega arith)) in
    ap (λ (x : List Context). record { active = 1; contexts = x }) (sym f ∙ e)
