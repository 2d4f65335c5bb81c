-- Laws of Sheet, in the reader's terms: each answer on one record of one kind, and on the values of the first two, each of which stands
-- once, at a known place.
--     missing, other_kind   no record, and one of another kind
--     body_cut, present     a record whose body is not there, and one whose body is
--     Form                  such a record, with its value, the test of it and what follows
--     form_refused, form_decided   the record is not there, or its value is tested
-- Assumes nothing.
use Rattle.std.specs.Prelude.{ℕ, ◌+◌, ◌-◌, ◌≤◌, ◌<◌, ◌≡◌, Bool, List, length, get_or, take, drop, Ok, Err}
use Rattle.std.proofs.Common.{arith, drop_of_length-le, length-drop, drop-drop, eq-eqb, ne_eqb, le-leb}
use Rattle.std.proofs.lemmas.Bool.{lt-leb}
use Rattle.std.proofs.lemmas.List.{drop_more}
use denote.Ref.{Bor}
use Rattle.model.specs.Basics.{number}
use Rattle.model.specs.Map.{most}
use Rattle.model.specs.Refusals.{check, sized, within}
use Rattle.model.specs.Sheet.{Found, judged, one_record, region_of, beginning_map, domains_read}
use Rattle.model.specs.declared.map.Region.{Region}
use Rattle.model.specs.declared.refusal.Refusal.{Refusal}
use Rattle.model.specs.Answers.{Verdict}
use Rattle.sheet.specs.Resumed.{Opens}

module _ (s : List ℕ) (at kind size : ℕ) where
  abbrev rest : List ℕ
  rest = drop (at + 1) s

  pub missing : length s ≤ at → Opens s at kind size (Err Refusal.Short)
  missing h = record { reads = λ go. rw (drop_of_length-le s h) }

  module _ (h : at < length s) where
    pub other_kind : (get_or s at 0 ≡ kind → ⊥) → Opens s at kind size (Err Refusal.Kind)
    other_kind n = record { reads = λ go. rw (drop_more s at 0 h, ne_eqb (get_or s at 0) kind n) }

    pub body_cut : get_or s at 0 ≡ kind → length s - at - 1 < size → Opens s at kind size (Err Refusal.Short)
    body_cut e n =
        let l : length rest < size = rw length-drop (omega arith) in
        record { reads = λ go. rw (drop_more s at 0 h, eq-eqb (get_or s at 0) kind e, lt-leb size (length rest) l) }

    pub present :
        {b : Bor (List ℕ)} → b.now ≡ take size rest → get_or s at 0 ≡ kind → size ≤ length s - at - 1 → Opens s at kind size (Ok b)
    present q e n =
        let l : size ≤ length rest = rw length-drop (omega arith) in
        record {
          reads =
              λ go. rw (q, drop_more s at 0 h, eq-eqb (get_or s at 0) kind e, le-leb size (length rest) l, drop-drop size (at + 1) s);
        }

-- a record that stands once, at a known place: its value, the test of it with its number, and what follows it
pub record Form (A : Type 0) : Type 0 where
  pub at : ℕ
  pub kind : ℕ
  pub size : ℕ
  pub value : List ℕ → A
  pub good : A → Bool
  pub refusal : Refusal
  pub next : A → List ℕ → Found

abbrev pub go : {A : Type 0} → Form A → List ℕ → List ℕ → Found
go f b rest = judged f.at (check (f.good (f.value b)) f.refusal) (f.next (f.value b) rest)

abbrev pub reading : {A : Type 0} → Form A → List ℕ → Found
reading f s = one_record f.at f.kind f.size (drop f.at s) (go f)

abbrev pub kernel_form : ℕ → Form Region
kernel_form n =
    record {
      at = 5;
      kind = 2;
      size = 8;
      value = λ b. region_of b 0;
      good = within n;
      refusal = Refusal.Bounds;
      next = λ k rest. domains_read most 14 (beginning_map n k) rest;
    }

abbrev pub length_form : Form ℕ
length_form =
    record {
      at = 0;
      kind = 1;
      size = 4;
      value = λ b. number b 0;
      good = sized;
      refusal = Refusal.Length;
      next = λ n rest. one_record 5 2 8 rest (go (kernel_form n));
    }

module _ {A : Type 0} (f : Form A) (s : List ℕ) where
  pub form_refused : {r : Refusal} → Opens s f.at f.kind f.size (Err r) → Found.refused r f.at ≡ reading f s
  form_refused o = o.reads (go f)

  pub form_decided :
      {b : Bor (List ℕ)} → Opens s f.at f.kind f.size (Ok b) → {v : A} → v ≡ f.value b.now → {w : Verdict}
      → w ≡ check (f.good v) f.refusal → judged f.at w (f.next v (drop (f.at + 1 + f.size) s)) ≡ reading f s
  form_decided o e t = rw (t, e) (o.reads (go f))
