use Rattle.header_pieces.proofs.Readings.{tells-fields}
use Rattle.header_pieces.proofs.HeadReading.fields.Goals as goal

pub returns : goal.returns
returns c = λ o bytes h. tells-fields o bytes _ _ _ h _ c.fields.ensures
