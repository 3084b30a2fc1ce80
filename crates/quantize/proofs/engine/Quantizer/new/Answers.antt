use Rattle.quantize.proofs.NewHolds.{opens}
use Rattle.quantize.proofs.engine.Quantizer.new.Goals as goal

pub returns : goal.returns
returns c = opens _ _ _ _ _ c.table_of.ensures
