use native.Mathlib.Omega.{arith}
use Rattle.image.proofs.WireRows.{begun, kept-length, next_fits, wired, ended}
use Rattle.image.proofs.wire.wire_rows.Goals as goal

pub loop-y-init : goal.loop-y-init
loop-y-init c = let a = c.args in begun a.plane.now a.stride a.format a.out.now a.layout c.requires

pub overflow_mul-at : goal.overflow_mul-at
overflow_mul-at c = omega (arith, next_fits c.loop-y.invariant c.loop-y-test.true, kept-length c.loop-y.invariant)

pub overflow_add-at : goal.overflow_add-at
overflow_add-at c = omega (arith, next_fits c.loop-y.invariant c.loop-y-test.true, kept-length c.loop-y.invariant)

pub slice_bounds-wire_row-end : goal.slice_bounds-wire_row-end
slice_bounds-wire_row-end c = next_fits c.loop-y.invariant c.loop-y-test.true

pub loop-y-preserved : goal.loop-y-preserved
loop-y-preserved c =
    wired c.loop-y.invariant _ (λ i. let f = c.type_inv.plane i in omega arith) c.loop-y-test.true
    c.wire_row.ensures

pub shape_of-out : goal.shape_of-out
shape_of-out c = kept-length c.loop-y.invariant

pub returns : goal.returns
returns c = ended c.loop-y.invariant (omega arith)
