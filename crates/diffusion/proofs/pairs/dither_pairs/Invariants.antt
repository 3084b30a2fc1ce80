use Rattle.diffusion.proofs.PairsLoop.{PairsAt}
use Rattle.diffusion.proofs.pairs.dither_pairs.Given as goal

abbrev pub invariant-loop-y : goal.invariant-loop-y
invariant-loop-y l = PairsAt l.height l.gray l.initial.out l.out l.left l.right l.y
