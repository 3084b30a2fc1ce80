use Rattle.header_pieces.proofs.Readings.{reached-none}
use Rattle.header_pieces.proofs.HeadReading.new.Goals as goal

pub returns : goal.returns
returns c = reached-none _ _ c.new.ensures
