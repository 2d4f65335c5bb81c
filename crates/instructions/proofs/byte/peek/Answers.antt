-- `instructions::byte::peek` meets its contract. The closure reads the rest from a on, place by place.
use Rattle.std.proofs.Common.{◌≡◌, drop, get_or, rules, tests, arith}
use Rattle.std.proofs.lemmas.Grind.{common_steps}
use Rattle.model.proofs.MadeLaws.{made}
use Rattle.instructions.specs.ByteLaws.{peek_drop}
use Rattle.instructions.proofs.byte.peek.Goals as goal

pub returns : goal.returns
returns g c =
    let rest : c.unwrap_or-rest.result.now ≡ drop c.args.a c.args.memory.now = grind (arith, common_steps) in
    let bytes = c.from_fn.ensures.items in
    peek_drop _ _ _ _ bytes.long
    (λ k l. rw rest at (made _ (λ k. get_or c.unwrap_or-rest.result.now k 0)
    (λ k y q l called. (search rules, grind (arith, tests))) bytes k 0 l))
