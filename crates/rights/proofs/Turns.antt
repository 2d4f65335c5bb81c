-- One turn of each loop, in the code's numbers: from i to i + 1.
-- Assumes nothing.
use Prim.Native.Nat.{ℕ, zero, suc, ◌+◌, ◌-◌, ◌<◌}
use mathlib.Core.Path.{◌≡◌, refl}
use mathlib.Core.Bool.{Bool, true, false, ◌&&◌, ◌||◌, not}
use native.Mathlib.Omega.{arith}
use Rattle.model.proofs.LoopLaws.{back}
use Rattle.model.specs.Map.{nth, Grid}
use Rattle.model.specs.Refusals.{◌▸◌, domain_verdict, domains_verdict, cell, from, to, is_channel, channels_good}
use Rattle.model.specs.declared.map.Map.{Map}

-- a mark that is no channel, as the code tests for it
bad : (a b : Bool) → not a || b ≡ not (a && not b)
bad true true = refl
bad true false = refl
bad false b = refl

pub domains_turn :
    (m : Map) (i n : ℕ) → 0 < n → domains_verdict m i n ≡ domain_verdict m i (nth m i) ▸ domains_verdict m (i + 1) (n - 1)
unfolding domains_verdict
domains_turn m i zero h = absurd (omega arith)
domains_turn m i (suc n) h = rw (back n)

pub channels_turn :
    (count : ℕ) (g : Grid) (p n : ℕ) → 0 < n
    → channels_good count g p n ≡ not (cell g p && not (is_channel count (from p) (to p))) && channels_good count g (p + 1) (n - 1)
unfolding channels_good
channels_turn count g p zero h = absurd (omega arith)
channels_turn count g p (suc n) h = rw (back n, bad (cell g p) (is_channel count (from p) (to p)))
