-- `instructions::byte::put` meets its contract. Past the end of memory the definition sets nothing.
use Rattle.std.proofs.Common.{◌≡◌, ◌+◌, ◌≤◌, length, get_or, sym, ◌∙◌, arith}
use lib.Seq.{set_out}
use Rattle.instructions.specs.ByteLaws.{sets_more}
use Rattle.instructions.proofs.byte.put.Goals.{then-at-memory, else-at-memory}
use Rattle.instructions.proofs.byte.put.Goals as goal

pub loop-i-preserved : goal.loop-i-preserved
loop-i-preserved c =
    let l = c.loop-i in
    let more = sets_more c.args.bytes.now c.args.memory.now c.args.a l.i (omega arith) in
    elim c.if-at-memory.branch [
      | then-at-memory w ↦
          let at : c.saturating_add-at.result ≡ c.args.a + l.i = omega arith in
          w.memory-is ∙ rw (at, l.invariant) (sym more)
      | else-at-memory w ↦
          let out : length l.memory ≤ c.args.a + l.i = omega arith in
          w.memory-is ∙ sym (set_out l.memory (c.args.a + l.i) (get_or c.args.bytes.now l.i 0) out) ∙ rw l.invariant (sym more)
    ]
