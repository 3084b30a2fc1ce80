use Prim.Native.Nat.{◌+◌, ◌*◌}
use native.Mathlib.Nat.{add-mul}
use native.Mathlib.Omega.{arith}
use Rattle.image.specs.Geometry.{row_bytes}
use Rattle.diffusion.proofs.RowsGoing.{going_next, going-moved, going_end}
use Rattle.diffusion.proofs.rows.rows_from.Goals as goal

pub loop-y-preserved : goal.loop-y-preserved
loop-y-preserved c =
    let p = c.args.layout in
    let y = c.loop-y.y in
    let s = row_bytes p.width in
    rw p.stride_is
    (going-moved ((y + 1) * p.width) ((y + 1) * s)
    (going_next c.requires.plane_lent.0 (rw p.stride_is at c.loop-y.invariant) c.loop-y-test.true
    (λ i. let f = c.type_inv.gray i in omega arith) _ _ _
    c.next_row-level.auto.work c.next_row-level.ensures)
    (omega (arith, add-mul y 1 p.width)) (omega (arith, add-mul y 1 s)))

pub returns : goal.returns
returns c = record { rows_written = going_end c.loop-y.invariant c.loop-y-test.false; work_unchanged = c.loop-y.invariant.beyond }
