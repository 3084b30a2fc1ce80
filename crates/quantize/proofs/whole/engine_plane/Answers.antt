use Rattle.quantize.proofs.WholePlanes.{quantizes-all}
use Rattle.quantize.proofs.whole.engine_plane.Goals as goal

pub returns : goal.returns
returns c = quantizes-all _ _ _ _ _ _ c.requires.serves c.requires.room _ c.new.ensures _ _ _ _ c.run.ensures
