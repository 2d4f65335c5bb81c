-- What is left to read after each of the reader's answers: an answer's contract is that this is what the definition reads.
--     sheet_equal   what the reader returns, by its two parts
-- Assumes nothing.
use Rattle.std.specs.Prelude.{ℕ, suc, ◌+◌, ◌*◌, ◌≤◌, ◌<◌, ◌≡◌, List, [], true, length, get_or, set, drop, Option, Some, None, Result, Ok, Err}
use Rattle.std.proofs.Common.{◌∙◌}
use Rattle.std.proofs.Math.Path.{ap}
use denote.Ref.{Bor}
use Rattle.model.specs.Map.{most, Grid, no_grid}
use Rattle.model.specs.Sheet.{Found, finish, one_record, kernel_read, region_of, beginning_map, with_domain, domains_read, channels_read}
use Rattle.model.specs.declared.map.Region.{Region}
use Rattle.model.specs.declared.map.Domain.{Domain}
use Rattle.model.specs.declared.map.Map.{Map}
use Rattle.model.specs.declared.refusal.Refusal.{Refusal}
use Rattle.model.specs.declared.refusal.RefusedAt.{RefusedAt}
use Rattle.model.specs.declared.call.Sheet.{Sheet}
use Rattle.model.specs.Answers.{Reading}
use Rattle.sheet.specs.declared.cursor.Cursor.{Cursor}

-- one record of one kind: with its body there, what follows goes on with the body and the rest
abbrev pub after_record : List ℕ → ℕ → ℕ → (List ℕ → List ℕ → Found) → Result (Bor (List ℕ)) Refusal → Found
after_record s at size go (Ok b) = go b.now (drop (at + 1 + size) s)
after_record s at size go (Err r) = Found.refused r at

pub record Opens (s : List ℕ) (at kind size : ℕ) (r : Result (Bor (List ℕ)) Refusal) : Type 0 where
  pub reads : (go : List ℕ → List ℕ → Found) → after_record s at size go r ≡ one_record at kind size (drop at s) go

-- the first two records
abbrev pub kernel_left : List ℕ → ℕ → Found
kernel_left s n = one_record 5 2 8 (drop 5 s) (λ b after. kernel_read n (region_of b 0) after)

abbrev pub after_length : List ℕ → Result ℕ Refusal → Found
after_length s (Ok n) = kernel_left s n
after_length s (Err r) = Found.refused r 0

abbrev pub after_kernel : List ℕ → ℕ → Result Region Refusal → Found
after_kernel s n (Ok k) = domains_read most 14 (beginning_map n k) (drop 14 s)
after_kernel s n (Err r) = Found.refused r 5

-- a record of kind 3, with room for that many more
abbrev pub after_domain : List ℕ → Cursor → ℕ → Result (Option Domain) Refusal → Found
after_domain s c room (Ok (Some d)) = domains_read room (c.at + 21) (with_domain c.map d) (drop (c.at + 21) s)
after_domain s c room (Ok None) = channels_read c.at c.map 0 no_grid (drop c.at s)
after_domain s c room (Err r) = Found.refused r c.at

abbrev pub domain_end : Cursor → Result (Option Domain) Refusal → ℕ
domain_end c (Ok (Some d)) = c.at + 21
domain_end c (Ok None) = 0
domain_end c (Err r) = 0

pub record ReadsDomain (s : List ℕ) (c : Cursor) (r : Result (Option Domain) Refusal) : Type 0 where
  pub reads : (room : ℕ) → after_domain s c room r ≡ domains_read (suc room) c.at c.map (drop c.at s)
  pub fits : domain_end c r ≤ length s

-- all records before the channels
abbrev pub after_front : List ℕ → Result Cursor RefusedAt → Found
after_front s (Ok c) = channels_read c.at c.map 0 no_grid (drop c.at s)
after_front s (Err f) = Found.refused f.refusal f.at

-- a record of kind 4 or 5, with m and g as far as they are read
abbrev pub after_channel : List ℕ → ℕ → Map → Grid → Result (Option (ℕ × ℕ)) Refusal → Found
after_channel s at m g (Ok (Some x)) =
    channels_read (at + 3) m (x.0 * most + x.1 + 1) (set g x.0 (set (get_or g x.0 []) x.1 true)) (drop (at + 3) s)
after_channel s at m g (Ok None) = finish at m g (drop (at + 1) s)
after_channel s at m g (Err r) = Found.refused r at

abbrev pub ChannelFits : List ℕ → ℕ → ℕ → Result (Option (ℕ × ℕ)) Refusal → Type 0
ChannelFits s at count (Ok (Some x)) = (at + 3 ≤ length s) × (x.0 < count) × (x.1 < count)
ChannelFits s at count (Ok None) = at < length s
ChannelFits s at count (Err r) = Unit

pub record ReadsChannel (s : List ℕ) (at count p : ℕ) (r : Result (Option (ℕ × ℕ)) Refusal) : Type 0 where
  pub reads : (m : Map) (g : Grid) → m.count ≡ count → after_channel s at m g r ≡ channels_read at m p g (drop at s)
  pub fits : ChannelFits s at count r

-- the whole sheet
abbrev pub closed : Result Map RefusedAt → Grid → Found
closed (Ok m) g = Found.whole m g
closed (Err f) g = Found.refused f.refusal f.at

sheet_equal : (x : Sheet) {r : Reading} {m : Map} → x.reading ≡ r → x.map ≡ m → x ≡ record { reading = r; map = m }
sheet_equal x {r} {m} e f =
    ap (λ (q : Reading). record { reading = q; map = x.map }) e ∙ ap (λ (q : Map). record { reading = r; map = q }) f
