use Rattle.std.proofs.Common.{rules, arith, ℕ, ◌≡◌, ◌+◌, ◌-◌, ◌≤◌, sym, ◌∙◌, true, false, leb, List, length, get_or, take, drop, Err}
use Rattle.std.proofs.lemmas.List.{take_rest, get_or-drop}
use Rattle.std.proofs.lemmas.Bool.{leb-true}
use Rattle.model.specs.Sheet.{place}
use Rattle.model.specs.declared.refusal.Refusal.{Refusal}
use Rattle.model.proofs.TestLaws.{and_pass, and_stop}
use Rattle.sheet.specs.ChannelReadLaws.{body_cut, no_channel, channel}
use Rattle.sheet.proofs.channels.channel_body.Goals as goal

-- the channel's two bytes, in the bytes that are left after the kind
byte_at : (s : List ℕ) (n i k : ℕ) → n + i ≡ k → get_or (take (length s - n) (drop n s)) i 0 ≡ get_or s k 0
byte_at s n i k e = rw (take_rest s n, ← e) (get_or-drop n s i 0)

from : (s : List ℕ) (at : ℕ) → get_or (take (length s - (at + 1)) (drop (at + 1) s)) 0 0 ≡ get_or s (at + 1) 0
from s at = byte_at s (at + 1) 0 (at + 1) (omega arith)

to : (s : List ℕ) (at : ℕ) → get_or (take (length s - (at + 1)) (drop (at + 1) s)) 1 0 ≡ get_or s (at + 2) 0
to s at = byte_at s (at + 1) 1 (at + 2) (omega arith)

pub returns-in_default : goal.returns-in_default
returns-in_default c = body_cut _ _ _ _ c.requires.0 c.requires.1 (search rules)

pub returns-in_err-check : goal.returns-in_err-check
returns-in_err-check c =
    let e : c.from_residual.result ≡ Err Refusal.Channel = search rules in
    let l : c.args.at + 3 ≤ length c.args.s.now = search rules in
    let i : c.is_channel.result ≡ false = search rules in
    rw e (no_channel _ _ _ _ l c.requires.1 (and_stop _ (rw (from, to) at c.is_channel.ensures) i))

pub returns-in_err-check-2 : goal.returns-in_err-check-2
returns-in_err-check-2 c =
    let a = c.args in
    let e : c.from_residual-in_err-check-2.result ≡ Err Refusal.Channel = search rules in
    let l : a.at + 3 ≤ length a.s.now = search rules in
    let i : c.is_channel.result ≡ true = search rules in
    let p : leb a.p (place (get_or a.s.now (a.at + 1) 0) (get_or a.s.now (a.at + 2) 0)) ≡ false = search (rules, from a.s.now a.at, to a.s.now a.at) in
    rw e (no_channel _ _ _ _ l c.requires.1 (and_pass _ (rw (from, to) at c.is_channel.ensures) i ∙ p))

pub returns : goal.returns
returns c =
    let a = c.args in
    let l : a.at + 3 ≤ length a.s.now = search rules in
    let i : c.is_channel.result ≡ true = search rules in
    let p : leb a.p (place (get_or a.s.now (a.at + 1) 0) (get_or a.s.now (a.at + 2) 0)) ≡ true = search (rules, from a.s.now a.at, to a.s.now a.at) in
    rw (c.from-row.ensures, c.from-column.ensures, from, to)
    (channel _ _ _ _ l c.requires.1 (sym (rw (from, to) at c.is_channel.ensures) ∙ i) (leb-true _ _ p))
