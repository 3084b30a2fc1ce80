use Prim.Native.Nat.{◌+◌, ◌*◌, ◌≤◌}
use mathlib.Core.Path.{refl, ap}
use Rattle.image.specs.declared.PlaneLayout.{PlaneLayout}
use native.Mathlib.Omega.{arith}
use lib.ListN.{length}
use Rattle.laws.proofs.Products.{product-below}
use Rattle.encoder.proofs.ScanTests.{passed}
use Rattle.encoder.proofs.ScansLoop.{begun, out-long, next-in, scanned, scan-made, ended}
use Rattle.encoder.proofs.gray8.put_scans.Goals as goal
use Rattle.encoder.proofs.gray8.put_scans.Goals.{In-loop-k}

pub overflow_mul-area : goal.overflow_mul-area
overflow_mul-area c = record { fits = product-below 32 32 (omega arith) (omega arith) }

pub loop-k-init : goal.loop-k-init
loop-k-init c =
    let a = c.args in
    begun a.options.quantize a.scans.width a.scans.height a.scans.count a.gray.now a.work.now a.out.now c.new-plane.result.total_bytes
    (passed 16 a.options a.scans.width a.scans.height a.scans.count (length a.gray.now) (length a.work.now) c.requires.work_value)
    (ap (λ (l : PlaneLayout). l.total_bytes) c.new-plane.ensures) c.requires.height_in_bounds

-- scan k is among the samples, and its plane in the output
there : (c : In-loop-k)
    → let a = c.args in
    let area = a.scans.width * a.scans.height in
    let plane = c.new-plane.result.total_bytes in
    (c.loop-k.k * area + area ≤ length a.gray.now) × (c.loop-k.k * plane + plane ≤ length c.loop-k.out)
there c = next-in c.loop-k.invariant c.loop-k-test.true

pub overflow_mul-from : goal.overflow_mul-from
overflow_mul-from c = omega (arith, (there c).0, c.well_formed)

pub overflow_mul-to : goal.overflow_mul-to
overflow_mul-to c = omega (arith, (there c).1, out-long c.loop-k.invariant, c.well_formed)

pub slice_bounds-quantize_gray8-count : goal.slice_bounds-quantize_gray8-count
slice_bounds-quantize_gray8-count c = omega (arith, (there c).0)

pub slice_bounds-quantize_gray8-start : goal.slice_bounds-quantize_gray8-start
slice_bounds-quantize_gray8-start c = omega (arith, (there c).0)

pub slice_bounds-quantize_gray8-count-in-loop-k : goal.slice_bounds-quantize_gray8-count-in-loop-k
slice_bounds-quantize_gray8-count-in-loop-k c = omega (arith, (there (goal.at.slice_bounds-quantize_gray8-count-in-loop-k c).In-loop-k).1)

pub slice_bounds-quantize_gray8-start-in-loop-k : goal.slice_bounds-quantize_gray8-start-in-loop-k
slice_bounds-quantize_gray8-start-in-loop-k c = omega (arith, (there (goal.at.slice_bounds-quantize_gray8-start-in-loop-k c).In-loop-k).1)

pub loop-k-preserved : goal.loop-k-preserved
loop-k-preserved c = scanned c.loop-k.invariant _ _ c.loop-k-test.true refl refl _ _ _ c.quantize_gray8.ensures c.quantize_gray8.auto.work

pub unwrap-requires : goal.unwrap-requires
unwrap-requires c = scan-made c.loop-k.invariant _ _ c.loop-k-test.true refl refl _ _ _ c.quantize_gray8.ensures

pub shape_of-out : goal.shape_of-out
shape_of-out c = out-long c.loop-k.invariant

pub returns : goal.returns
returns c = ended c.loop-k.invariant (omega arith)
