use native.Mathlib.Omega.{arith}
use lib.ListN.{length}
use Rattle.image.proofs.ConvertLoop.{begun, converted, stopped, ended}
use Rattle.image.proofs.RowStarts.{Started, started, missed}
use Rattle.image.proofs.convert.convert_rows.Goals as goal
use Rattle.image.proofs.convert.convert_rows.Goals.{In-Some}

pub loop-y-init : goal.loop-y-init
loop-y-init c =
    let a = c.args in
    begun a.plane.now a.stride a.layout

-- the row is in the plane
there : (c : In-Some)
    → Started (length c.loop-y.plane) c.args.stride c.loop-y.y c.args.layout.stride
    c.in-Some.at
there c = started _ _ _ _ _ _ c.row_start.ensures c.in-Some.is

pub overflow_add-at : goal.overflow_add-at
overflow_add-at c = omega (arith, there (goal.at.overflow_add-at c).In-Some)

pub slice_bounds-invert_row-end : goal.slice_bounds-invert_row-end
slice_bounds-invert_row-end c = let p = there (goal.at.slice_bounds-invert_row-end c).In-Some in omega arith

pub shape_of-plane-in_default : goal.shape_of-plane-in_default
shape_of-plane-in_default c = c.loop-y.invariant.same

pub returns-in_default : goal.returns-in_default
returns-in_default c =
    stopped c.loop-y.invariant c.loop-y-test.true
    (missed _ _ _ _ _ c.row_start.ensures c.in_default.is)

pub loop-y-preserved : goal.loop-y-preserved
loop-y-preserved c = converted c.loop-y.invariant _ _ c.loop-y-test.true (there (goal.at.loop-y-preserved c).In-Some) c.invert_row.ensures

pub shape_of-plane : goal.shape_of-plane
shape_of-plane c = c.loop-y.invariant.same

pub returns : goal.returns
returns c = ended c.loop-y.invariant c.loop-y-test.false
