use Rattle.std.proofs.Common.{rules}
use Rattle.sheet.specs.ChannelReadLaws.{missing, other_kind, ended}
use Rattle.sheet.proofs.channels.channel_record.Goals as goal

pub returns-in-Some-eq5 : goal.returns-in-Some-eq5
returns-in-Some-eq5 c = ended _ _ _ _ (search rules) (search rules)

pub returns-in-Some : goal.returns-in-Some
returns-in-Some c = other_kind _ _ _ _ (search rules) (search rules) (search rules)

pub returns-in-None : goal.returns-in-None
returns-in-None c = missing _ _ _ _ (search rules)
