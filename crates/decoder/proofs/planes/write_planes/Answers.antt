use Prim.Native.Nat.{◌+◌, ◌*◌, ◌≤◌}
use mathlib.Core.Path.{refl, ap}
use native.Mathlib.Omega.{arith}
use lib.ListN.{length}
use Rattle.header.specs.Read.{parsed}
use Rattle.image.specs.declared.PlaneLayout.{PlaneLayout}
use Rattle.decoder.proofs.Planed.{begun, kept-length, next-in, source_is, planed, ended, lent-room}
use Rattle.decoder.proofs.planes.write_planes.Goals as goal
use Rattle.decoder.proofs.planes.write_planes.Goals.{In-loop-k}

pub loop-k-init : goal.loop-k-init
loop-k-init c =
    let a = c.args in
    begun a.format a.bytes.now (parsed a.h) a.out.now c.new-layout.result.total_bytes a.frames
    (ap (λ (l : PlaneLayout). l.total_bytes) c.new-layout.ensures) c.requires.0 c.requires.1

-- plane k is in the file and in the output
there : (c : In-loop-k)
    → let a = c.args in
    let plane = c.new-layout.result.total_bytes in
    (a.h.data_offset + c.loop-k.k * plane + plane ≤ length a.bytes.now) × (c.loop-k.k * plane + plane ≤ length c.loop-k.out)
there c = next-in c.loop-k.invariant c.loop-k-test.true

pub overflow_mul-to : goal.overflow_mul-to
overflow_mul-to c = omega (arith, (there c).0, c.well_formed)

pub overflow_add-from : goal.overflow_add-from
overflow_add-from c = omega (arith, (there c).0, c.well_formed)

pub slice_bounds-write_plane-end : goal.slice_bounds-write_plane-end
slice_bounds-write_plane-end c = (there c).0

pub slice_bounds-write_plane-count-in-loop-k : goal.slice_bounds-write_plane-count-in-loop-k
slice_bounds-write_plane-count-in-loop-k c = omega (arith, (there (goal.at.slice_bounds-write_plane-count-in-loop-k c).In-loop-k).1)

pub slice_bounds-write_plane-start-in-loop-k : goal.slice_bounds-write_plane-start-in-loop-k
slice_bounds-write_plane-start-in-loop-k c = omega (arith, (there (goal.at.slice_bounds-write_plane-start-in-loop-k c).In-loop-k).1)

pub slice_bounds-write_plane-end-in-loop-k : goal.slice_bounds-write_plane-end-in-loop-k
slice_bounds-write_plane-end-in-loop-k c = omega arith

pub write_plane-requires : goal.write_plane-requires
write_plane-requires c =
    let a = c.args in
    let plane = c.new-layout.result.total_bytes in
    let k = c.loop-k.k in
    lent-room (a.h.data_offset + k * plane) plane (k * plane) a.bytes.now c.loop-k.out (there (goal.at.write_plane-requires c).In-loop-k).0 (there (goal.at.write_plane-requires c).In-loop-k).1

pub loop-k-preserved : goal.loop-k-preserved
loop-k-preserved c = planed c.loop-k.invariant _ _ _ c.loop-k-test.true refl (source_is c.loop-k.invariant _ refl) c.write_plane.ensures

pub shape_of-out : goal.shape_of-out
shape_of-out c = kept-length c.loop-k.invariant

pub returns : goal.returns
returns c = ended c.loop-k.invariant (omega arith)
