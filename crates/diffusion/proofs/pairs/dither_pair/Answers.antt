use mathlib.Core.Path.{refl}
use native.Mathlib.Omega.{arith}
use Rattle.diffusion.proofs.PairsLoop.{pair-level, pair_made}
use Rattle.diffusion.proofs.pairs.dither_pair.Goals as goal

pub returns-then-is_level : goal.returns-then-is_level
returns-then-is_level c =
    let a = c.args in
    pair-level a.first a.second a.left a.right _ (omega (arith, c.ranges.first)) (omega (arith, c.ranges.second))
    (c.is_level.ensures c.if-is_level.true) refl refl refl

pub returns : goal.returns
returns c =
    let a = c.args in
    pair_made a.first a.second a.left a.right _ c.part.result c.part-2.result c.part-3.result
    c.part-4.result c.part-5.result c.part.ensures.0 c.part-2.ensures.0 c.part-3.ensures.0
    c.part-4.ensures.0 c.part-5.ensures.0 refl refl refl
