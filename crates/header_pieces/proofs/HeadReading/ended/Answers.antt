use Rattle.header_pieces.proofs.Readings.{tells-end}
use Rattle.header_pieces.proofs.HeadReading.ended.Goals as goal

pub returns : goal.returns
returns c = λ o bytes h. tells-end o bytes _ _ _ h _ c.ended.ensures
