use Rattle.std.proofs.Common.{arith}
use Rattle.quantize.proofs.DotsByRule.{dots-threshold, dots-ordered, served-ordered}
use Rattle.quantize.proofs.engine.Quantizer.dots.Goals as goal

pub returns-in-Threshold : goal.returns-in-Threshold
returns-in-Threshold c =
    let p = c.requires in
    dots-threshold _ _ _ _ _ _ _ _ _ _ _ c.in-Threshold.is p.small (c.threshold_row_dots.ensures.does p.packs)

pub returns-in-Ordered : goal.returns-in-Ordered
returns-in-Ordered c =
    let p = c.requires in
    let e = c.in-Ordered.is in
    let known = served-ordered _ _ _ _ e p.served in
    dots-ordered _ _ _ _ _ _ _ _ _ _ _ e known p.small
    (c.ordered_row_dots.ensures.does (record { packs = p.packs; known = known; fits = omega (arith, p.within, p.fits) }))
