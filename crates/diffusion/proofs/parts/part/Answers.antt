use mathlib.Core.Path.{refl}
use Rattle.diffusion.specs.Internal.Sums.{part_of}
use Rattle.diffusion.proofs.SumsCorrect.{part_small}
use Rattle.diffusion.proofs.parts.part.Goals as goal

pub returns : goal.returns
unfolding part_of
returns c = (refl, part_small c.args.sixteenths c.args.b c.requires.1)
