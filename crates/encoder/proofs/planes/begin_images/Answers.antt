use Prim.Native.Nat.{ℕ, ◌*◌}
use mathlib.Core.Path.{◌≡◌, ap, refl, sym}
use native.Mathlib.Omega.{arith}
use lib.ListN.{length}
use Rattle.std.proofs.lemmas.Result.{err_from_is_err_and}
use Rattle.error.specs.Answer.{gives}
use Rattle.image.specs.Geometry.{plane_bytes}
use Rattle.image.specs.declared.PlaneLayout.{PlaneLayout}
use Rattle.encoder.specs.Write.{check_planes}
use Rattle.encoder.proofs.PlaneTests.{tested, body-within}
use Rattle.encoder.proofs.PairsLeft.{written-left, unwritten-left, tested-left, unplaned-left}
use Rattle.encoder.proofs.planes.begin_images.Goals as goal
use Rattle.encoder.proofs.planes.begin_images.Goals.{In_ok-check_planes, After-new}

-- the tests accepted
tests : (c : In_ok-check_planes)
    → let a = c.args.lent in check_planes 16 a.width a.height a.count a.stride (length c.args.planes.now) ≡ gives tt
tests c = sym c.in_ok-check_planes.ensures

plane_is : (c : After-new) → c.new.result.total_bytes ≡ plane_bytes c.args.lent.width c.args.lent.height
plane_is c = ap (λ (l : PlaneLayout). l.total_bytes) c.new.ensures

body_is : (c : After-new) → let a = c.args.lent in a.count * c.new.result.total_bytes ≡ a.count * plane_bytes a.width a.height
body_is c = ap (λ (k : ℕ). c.args.lent.count * k) (plane_is c)

pub returns-in_err-check_planes : goal.returns-in_err-check_planes
returns-in_err-check_planes c lengths h =
    let a = c.args in
    let p = err_from_is_err_and c.from_residual.result c.from_residual.ensures.1 in
    rw (p.1, p.2)
    (unplaned-left a.options a.lent.format a.lent.width a.lent.height a.lent.count a.lent.stride a.planes.now a.text.now lengths a.out.now
    a.out.now _ (sym c.in_err-check_planes.ensures))

pub overflow_mul-body : goal.overflow_mul-body
overflow_mul-body c =
    let a = c.args.lent in
    let t = body-within (tested 16 a.width a.height a.count a.stride (length c.args.planes.now)
    (tests (goal.at.overflow_mul-body c).In_ok-check_planes)) in
    omega (arith, body_is (goal.at.overflow_mul-body c).After-new, c.well_formed)

pub returns-in_err-begun : goal.returns-in_err-begun
returns-in_err-begun c lengths h =
    let a = c.args in
    let p = err_from_is_err_and c.from_residual-in_err-begun.result c.from_residual-in_err-begun.ensures.1 in
    rw (p.1, p.2)
    (tested-left a.options a.lent.format a.lent.width a.lent.height a.lent.count a.lent.stride a.planes.now a.text.now lengths a.out.now
    _ _ (tests (goal.at.returns-in_err-begun c).In_ok-check_planes)
    (unwritten-left a.options a.lent.width a.lent.height a.text.now lengths a.out.now a.lent.format a.lent.count a.lent.stride a.planes.now
    _ (plane_is (goal.at.returns-in_err-begun c).After-new) c.begin_header_before.new.out _ (c.in_err-begun.ensures.2 lengths h)))

pub returns : goal.returns
returns c lengths h =
    let a = c.args in
    let k = c.in_ok-begun.ensures.0 c.in_ok-begun.begun refl in
    tested-left a.options a.lent.format a.lent.width a.lent.height a.lent.count a.lent.stride a.planes.now a.text.now lengths a.out.now _ _
    (tests (goal.at.returns c).In_ok-check_planes)
    (written-left a.options a.lent.width a.lent.height a.text.now lengths a.out.now a.lent.format a.lent.count a.lent.stride a.planes.now _
    (plane_is (goal.at.returns c).After-new) c.begin_header_before.new.out c.in_ok-begun.begun c.write_planes.new.out (omega (arith, k))
    c.write_planes.auto.out c.write_planes.ensures (c.in_ok-begun.ensures.2 lengths h))
