use Rattle.quantize.proofs.PlaneFinished.{quantizes-dither}
use Rattle.quantize.proofs.whole.dithered_plane.Goals as goal

pub returns-else-few_grays : goal.returns-else-few_grays
returns-else-few_grays c = quantizes-dither _ _ _ _ _ c.requires.serves c.requires.room _ _ c.dither_plane.ensures
