use Rattle.diffusion.proofs.OnesLoop.{OnesAt}
use Rattle.diffusion.proofs.ones.dither_ones.Given as goal

abbrev pub invariant-loop-y : goal.invariant-loop-y
invariant-loop-y l = OnesAt l.height l.gray l.initial.out l.out l.rest l.y
