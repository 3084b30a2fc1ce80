use Rattle.std.proofs.Common.{refl, arith, rules}
use Rattle.image.proofs.PlaneSizes.{stride-is, mask_is}
use Rattle.image.proofs.RowEndsCleared.{cleared-none, none-yet, next-row, all-rows}
use Rattle.image.proofs.packed.clear_ends.Goals as goal

pub returns-then-width-eq0 : goal.returns-then-width-eq0
returns-then-width-eq0 c = cleared-none _ _ _ c.if-width-eq0.true

pub loop-y-init : goal.loop-y-init
loop-y-init c =
    let e = c.new-layout.ensures in
    none-yet _ _ _ _ _ _ (stride-is e) (mask_is e) (omega (arith, stride-is e, c.if-width-eq0.false)) refl

pub loop-y-preserved : goal.loop-y-preserved
loop-y-preserved c = next-row c.loop-y.invariant c.loop-y-test.true (search rules)

pub returns : goal.returns
returns c = all-rows c.loop-y.invariant c.loop-y-test.false
