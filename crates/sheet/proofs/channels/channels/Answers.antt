use Rattle.std.proofs.Common.{rules, ◌≡◌, ◌∙◌, refl, None, Ok}
use Rattle.sheet.specs.ChannelReadLaws.{trailing}
use Rattle.sheet.proofs.channels.channels.Goals as goal

pub returns-then-after-s : goal.returns-then-after-s
returns-then-after-s c =
    let e : c.channel_record.result ≡ Ok None = search rules in
    trailing _ _ _ _ c.if-after-s.true ∙ (rw e at c.channel_record.ensures).reads _ _ refl ∙ c.loop-row.invariant
