use Prim.Native.Nat.{◌+◌, ◌*◌, ◌≤◌}
use mathlib.Core.Path.{refl, ap}
use Rattle.image.specs.declared.PlaneLayout.{PlaneLayout}
use native.Mathlib.Omega.{arith}
use lib.ListN.{length}
use Rattle.encoder.proofs.PlaneTests.{Tested, tested}
use Rattle.encoder.proofs.PlanesLoop.{begun, kept-length, next-in, planed, plane-written, ended}
use Rattle.encoder.proofs.planes.write_planes.Goals as goal
use Rattle.encoder.proofs.planes.write_planes.Goals.{In-loop-k, Start}

-- the planes passed their tests
passed : (s : Start)
    → let a = s.args.lent in
    Tested 16 a.width a.height a.count a.stride (length s.args.planes.now)
passed s =
    let a = s.args.lent in
    tested 16 a.width a.height a.count a.stride (length s.args.planes.now) s.requires.planes_value

pub needed_bytes-needed-requires : goal.needed_bytes-needed-requires
needed_bytes-needed-requires c =
    let p = (passed (goal.at.needed_bytes-needed-requires c).Start).plane in
    (p.high, omega (arith, p.room, c.well_formed))

pub loop-k-init : goal.loop-k-init
loop-k-init c =
    let a = c.args.lent in
    begun a.format a.width a.height a.stride c.args.planes.now c.args.out.now a.count c.new-plane.result.total_bytes
    c.needed_bytes-needed.result (ap (λ (l : PlaneLayout). l.total_bytes) c.new-plane.ensures) c.needed_bytes-needed.ensures (passed (goal.at.loop-k-init c).Start).total
    c.requires.height_in_bounds

-- plane k is among those that are lent and has room in the output
there : (c : In-loop-k)
    → let a = c.args in
    let needed = c.needed_bytes-needed.result in
    let plane = c.new-plane.result.total_bytes in
    (c.loop-k.k * needed + needed ≤ length a.planes.now) × (c.loop-k.k * plane + plane ≤ length c.loop-k.out)
there c = next-in c.loop-k.invariant c.loop-k-test.true

pub overflow_mul-from : goal.overflow_mul-from
overflow_mul-from c = omega (arith, (there c).0, c.well_formed)

pub overflow_add-end : goal.overflow_add-end
overflow_add-end c = omega (arith, (there c).0, c.well_formed)

pub overflow_mul-to : goal.overflow_mul-to
overflow_mul-to c = omega (arith, (there c).1, kept-length c.loop-k.invariant, c.well_formed)

pub slice_bounds-wire_bits_at-end : goal.slice_bounds-wire_bits_at-end
slice_bounds-wire_bits_at-end c = omega (arith, (there c).0)

pub slice_bounds-wire_bits_at-count-in-loop-k : goal.slice_bounds-wire_bits_at-count-in-loop-k
slice_bounds-wire_bits_at-count-in-loop-k c = omega (arith, (there (goal.at.slice_bounds-wire_bits_at-count-in-loop-k c).In-loop-k).1)

pub slice_bounds-wire_bits_at-start-in-loop-k : goal.slice_bounds-wire_bits_at-start-in-loop-k
slice_bounds-wire_bits_at-start-in-loop-k c = omega (arith, (there (goal.at.slice_bounds-wire_bits_at-start-in-loop-k c).In-loop-k).1)

pub loop-k-preserved : goal.loop-k-preserved
loop-k-preserved c = planed c.loop-k.invariant _ _ c.loop-k-test.true refl refl _ _ c.wire_bits_at.ensures

pub unwrap-requires : goal.unwrap-requires
unwrap-requires c = plane-written c.loop-k.invariant _ _ c.loop-k-test.true refl refl _ _ c.wire_bits_at.ensures

pub shape_of-out : goal.shape_of-out
shape_of-out c = kept-length c.loop-k.invariant

pub returns : goal.returns
returns c = ended c.loop-k.invariant (omega arith)
