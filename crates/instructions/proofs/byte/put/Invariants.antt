-- `instructions::byte::put` meets its contract. The loop's invariant: the bytes passed are set.
use Rattle.std.proofs.Common.{◌≡◌, take}
use Rattle.std.proofs.lemmas.List.Edits.{sets}
use Rattle.instructions.proofs.byte.put.Given as goal

abbrev pub invariant-loop-i : goal.invariant-loop-i
invariant-loop-i l = l.memory ≡ sets l.initial.memory l.a (take l.i l.bytes)
