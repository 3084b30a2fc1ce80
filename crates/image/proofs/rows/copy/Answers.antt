use mathlib.Core.Path.{ap, ◌∙◌}
use native.Mathlib.Omega.{arith}
use borrow.Rule.Slice.PartMut.{mid_len}
use lib.ListN.{length}
use Rattle.image.proofs.FillLoop.{begun, kept-length, filled-part, rest-filled}
use Rattle.image.proofs.rows.copy.Goals as goal

pub loop-i-init : goal.loop-i-init
loop-i-init c = begun c.requires

pub slice_bounds-copy_bytes-end-in-loop-i : goal.slice_bounds-copy_bytes-end-in-loop-i
slice_bounds-copy_bytes-end-in-loop-i c = omega (arith, kept-length c.loop-i.invariant)

pub loop-i-preserved : goal.loop-i-preserved
loop-i-preserved c = filled-part c.loop-i.invariant _ _ (omega arith) (omega arith) (c.copy_bytes.ensures ∙ c.block-b.ensures)

pub slice_bounds-copy_bytes-count-3 : goal.slice_bounds-copy_bytes-count-3
slice_bounds-copy_bytes-count-3 c = omega (arith, kept-length c.loop-i.invariant)

pub slice_bounds-copy_bytes-start-3 : goal.slice_bounds-copy_bytes-start-3
slice_bounds-copy_bytes-start-3 c = omega (arith, kept-length c.loop-i.invariant)

pub copy_bytes-requires-2 : goal.copy_bytes-requires-2
copy_bytes-requires-2 c =
    let from = c.args.from.now in
    let e = kept-length c.loop-i.invariant in
    let p = mid_len c.loop-i.i (length from) from (omega arith) in
    let q = mid_len c.loop-i.i (length c.loop-i.to) c.loop-i.to (omega arith) in
    omega arith

pub returns : goal.returns
returns c = rest-filled c.loop-i.invariant _ c.copy_bytes-2.ensures

pub shape_of-to : goal.shape_of-to
shape_of-to c = ap length (returns c) ∙ c.requires
