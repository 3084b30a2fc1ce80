use Prim.Native.Nat.{◌*◌}
use mathlib.Core.Path.{◌≡◌, ap, refl, sym}
use native.Mathlib.Omega.{arith}
use lib.ListN.{length}
use Rattle.std.proofs.lemmas.Result.{err_from_is_err_and}
use Rattle.error.specs.Answer.{gives}
use Rattle.image.specs.Geometry.{plane_bytes}
use Rattle.image.specs.declared.PlaneLayout.{PlaneLayout}
use Rattle.encoder.specs.Make.{check_scans}
use Rattle.encoder.proofs.ScanTests.{passed}
use Rattle.encoder.proofs.ScansLoop.{planes-le}
use Rattle.encoder.proofs.PairsLeft.{made-left, refused-left, untested-left}
use Rattle.encoder.proofs.gray8.begin_gray8.Goals as goal
use Rattle.encoder.proofs.gray8.begin_gray8.Goals.{In_ok-check_scans, After-new}

-- the tests accepted
tests : (c : In_ok-check_scans)
    → let a = c.args in check_scans 16 a.options a.scans.width a.scans.height a.scans.count (length a.gray.now) (length a.work.now) ≡ gives tt
tests c = sym c.in_ok-check_scans.ensures

body_is : (c : After-new)
    → let a = c.args.scans in a.count * c.new.result.total_bytes ≡ a.count * plane_bytes a.width a.height
body_is c = ap (λ (l : PlaneLayout). c.args.scans.count * l.total_bytes) c.new.ensures

pub returns-in_err-check_scans : goal.returns-in_err-check_scans
returns-in_err-check_scans c lengths h =
    let a = c.args in
    let p = err_from_is_err_and c.from_residual.result c.from_residual.ensures.1 in
    rw (p.1, p.2)
    (untested-left a.options a.scans.width a.scans.height a.scans.count a.gray.now a.text.now lengths a.work.now a.out.now _
    (sym c.in_err-check_scans.ensures))

pub overflow_mul-body : goal.overflow_mul-body
overflow_mul-body c =
    let a = c.args in
    let p = passed 16 a.options a.scans.width a.scans.height a.scans.count (length a.gray.now) (length a.work.now)
    (tests (goal.at.overflow_mul-body c).In_ok-check_scans) in
    omega (
      arith,
      body_is (goal.at.overflow_mul-body c).After-new,
      planes-le a.scans.count a.scans.width a.scans.height p.sized.wide,
      p.enough,
      c.well_formed,
    )

pub returns-in_err-begun : goal.returns-in_err-begun
returns-in_err-begun c lengths h =
    let a = c.args in
    let p = err_from_is_err_and c.from_residual-in_err-begun.result c.from_residual-in_err-begun.ensures.1 in
    rw (p.1, p.2)
    (refused-left a.options a.scans.width a.scans.height a.scans.count a.gray.now a.text.now lengths a.work.now
    (tests (goal.at.returns-in_err-begun c).In_ok-check_scans) a.out.now _ (body_is (goal.at.returns-in_err-begun c).After-new)
    c.begin_header_before.new.out _ (c.in_err-begun.ensures.2 lengths h))

pub returns : goal.returns
returns c lengths h =
    let a = c.args in
    let b = c.begin_header_before in
    let k = c.in_ok-begun.ensures.0 c.in_ok-begun.begun refl in
    made-left a.options a.scans.width a.scans.height a.scans.count a.gray.now a.text.now lengths a.work.now
    (tests (goal.at.returns c).In_ok-check_scans) a.out.now _ (body_is (goal.at.returns c).After-new) b.new.out c.in_ok-begun.begun
    c.put_scans.new.out c.put_scans.new.work (omega (arith, k)) c.put_scans.auto.out c.put_scans.ensures (c.in_ok-begun.ensures.2 lengths h)
