use Rattle.sheet.specs.LaidLaws.{laid_copy}
use Rattle.sheet.proofs.writer.lay.Goals as goal

pub returns : goal.returns
returns c = laid_copy _ _ _ c.copy_from_slice.ensures.after
