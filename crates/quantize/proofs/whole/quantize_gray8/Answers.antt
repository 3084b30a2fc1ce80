use Rattle.std.proofs.Common.{◌≡◌, sym, ap}
use Rattle.std.proofs.lemmas.Result.{err_from_is_err_and}
use Rattle.quantize.proofs.PlaneFinished.{quantizes-threshold}
use Rattle.quantize.proofs.WholePlanes.{quantizes-refused, quantizes-short}
use Rattle.quantize.proofs.whole.quantize_gray8.Goals as goal
use Rattle.quantize.proofs.whole.quantize_gray8.Goals.{After-new-need}
use Rattle.image.specs.Geometry.{plane_bytes}
use Rattle.image.specs.declared.PlaneLayout.{PlaneLayout}

pub returns-in_err-check_scan : goal.returns-in_err-check_scan
returns-in_err-check_scan c =
    let p = err_from_is_err_and c.from_residual.result c.from_residual.ensures.1 in
    rw (p.1, p.2) (quantizes-refused _ _ _ _ _ _ _ c.in_err-check_scan.ensures)

-- the plane's bytes
need_is : (c : After-new-need) → c.new-need.result.total_bytes ≡ plane_bytes c.args.width c.args.height
need_is c = ap (λ (l : PlaneLayout). l.total_bytes) c.new-need.ensures

pub returns-then-out-need : goal.returns-then-out-need
returns-then-out-need c =
    rw c.new.ensures
    (quantizes-short _ _ _ _ _ _ (sym c.in_ok-check_scan.ensures)
    (rw (need_is (goal.at.returns-then-out-need c).After-new-need) at c.if-out-need.true))

pub returns-in-Threshold : goal.returns-in-Threshold
returns-in-Threshold c =
    let n = need_is (goal.at.returns-in-Threshold c).After-new-need in
    rw (c.in-Threshold.is, n)
    (quantizes-threshold _ _ _ _ _ _ (rw c.in-Threshold.is at (sym c.in_ok-check_scan.ensures)) (rw n at c.if-out-need.false) _
    c.threshold_plane.ensures)
