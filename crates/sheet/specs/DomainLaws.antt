-- Laws of Sheet, in the reader's terms: each answer on a record of kind 3, or where it should stand, is what the definition reads there.
--     missing, none_yet     no record; one of another kind before any of kind 3
--     others                one of another kind after the domains
--     body_cut              a record of kind 3 whose body is not there
--     domain_read, domain_bad   one whose body is there: a domain that stands well, and one that is refused
-- Assumes nothing.
use Rattle.std.specs.Prelude.{ℕ, suc, ◌+◌, ◌-◌, ◌≤◌, ◌<◌, ◌≡◌, List, get_or, take, drop, Some, None, Ok, Err}
use Rattle.std.proofs.Common.{arith, drop_of_length-le}
use Rattle.std.proofs.Math.ListN.{length, length-drop}
use Rattle.std.proofs.Math.Seq.{drop-drop}
use borrow.Author.Tests.{eq-eqb, ne_eqb, le-leb, lt-leb}
use Rattle.model.specs.Refusals.{domain_verdict}
use Rattle.model.specs.Sheet.{judged, domain_of, with_domain, domains_read}
use Rattle.model.specs.declared.map.Domain.{Domain}
use Rattle.model.specs.declared.refusal.Refusal.{Refusal}
use Rattle.std.proofs.lemmas.List.{drop_more}
use Rattle.sheet.specs.Resumed.{ReadsDomain}
use Rattle.sheet.specs.declared.cursor.Cursor.{Cursor}

module _ (s : List ℕ) (c : Cursor) where
  abbrev kind : ℕ
  kind = get_or s c.at 0

  abbrev rest : List ℕ
  rest = drop (c.at + 1) s

  pub missing : length s ≤ c.at → ReadsDomain s c (Err Refusal.Short)
  unfolding domains_read
  missing h = record { reads = λ room. rw (drop_of_length-le s h); fits = omega arith }

  module _ (h : c.at < length s) where
    module _ (n : kind ≡ 3 → ⊥) where
      pub none_yet : c.map.count ≡ 0 → ReadsDomain s c (Err Refusal.Kind)
      unfolding domains_read
      none_yet z =
          record { reads = λ room. rw (drop_more s c.at 0 h, ne_eqb kind 3 n, eq-eqb c.map.count 0 z); fits = omega arith }

      pub others : (c.map.count ≡ 0 → ⊥) → ReadsDomain s c (Ok None)
      unfolding domains_read
      others z =
          record { reads = λ room. rw (drop_more s c.at 0 h, ne_eqb kind 3 n, ne_eqb c.map.count 0 z); fits = omega arith }

    module _ (e : kind ≡ 3) where
      pub body_cut : length s - c.at - 1 < 20 → ReadsDomain s c (Err Refusal.Short)
      unfolding domains_read
      body_cut l =
          let f : length rest < 20 = rw length-drop (omega arith) in
          record { reads = λ room. rw (drop_more s c.at 0 h, eq-eqb kind 3 e, lt-leb 20 (length rest) f); fits = omega arith }

      module _ (d : Domain) (l : 20 ≤ length s - c.at - 1) (f : d ≡ domain_of (take 20 rest)) where
        verdict_decides :
            (room : ℕ)
            → judged c.at (domain_verdict c.map c.map.count d)
            (domains_read room (c.at + 21) (with_domain c.map d) (drop (c.at + 21) s))
            ≡ domains_read (suc room) c.at c.map (drop c.at s)
        unfolding domains_read
        verdict_decides room =
            let t : 20 ≤ length rest = rw length-drop (omega arith) in
            let j : c.at + 1 + 20 ≡ c.at + 21 = omega arith in
            rw (drop_more s c.at 0 h, eq-eqb kind 3 e, le-leb 20 (length rest) t, drop-drop 20 (c.at + 1) s, j, f)

        pub domain_read :
            domain_verdict c.map c.map.count d ≡ Ok tt → ReadsDomain s c (Ok (Some d))
        domain_read v = record { reads = λ room. rw v at (verdict_decides room); fits = omega arith }

        pub domain_bad :
            (r : Refusal) → domain_verdict c.map c.map.count d ≡ Err r
            → ReadsDomain s c (Err r)
        domain_bad r v = record { reads = λ room. rw v at (verdict_decides room); fits = omega arith }
