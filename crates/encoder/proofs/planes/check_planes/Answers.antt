use Rattle.std.proofs.Common.{sym, ◌∙◌, arith}
use Rattle.std.proofs.lemmas.Result.{err_from_is_err_and}
use Rattle.image.proofs.PlaneFits.{PlaneFits, fits}
use Rattle.encoder.proofs.CountTests.{Counted, counted}
use Rattle.encoder.proofs.PlaneTests.{short, enough, on-count, on-geometry}
use Rattle.encoder.proofs.planes.check_planes.Goals as goal
use Rattle.encoder.proofs.planes.check_planes.Goals.{In_ok-check_count, In_ok-check_geometry}

-- the frames are counted
frames : (c : In_ok-check_count) → let a = c.args.lent in Counted 16 a.width a.height a.count
frames c = let a = c.args.lent in counted 16 a.width a.height a.count (sym c.in_ok-check_count.ensures)

-- one plane is there
plane : (c : In_ok-check_geometry) → let a = c.args.lent in PlaneFits a.width a.height a.stride c.args.bytes
plane c = let a = c.args.lent in fits a.width a.height a.stride c.args.bytes (sym c.in_ok-check_geometry.ensures)

pub returns-in_err-check_count : goal.returns-in_err-check_count
returns-in_err-check_count c =
    let a = c.args.lent in
    let p = err_from_is_err_and c.from_residual.result c.from_residual.ensures.1 in
    rw (p.1, p.2) (sym (on-count a.width a.height a.count a.stride c.args.bytes 16 _ (sym c.in_err-check_count.ensures)))

pub returns-in_err-check_geometry : goal.returns-in_err-check_geometry
returns-in_err-check_geometry c =
    let a = c.args.lent in
    let p = err_from_is_err_and c.from_residual-in_err-check_geometry.result c.from_residual-in_err-check_geometry.ensures.1 in
    rw (p.1, p.2) (sym (on-count a.width a.height a.count a.stride c.args.bytes 16 _ (sym c.in_ok-check_count.ensures)
    ∙ on-geometry a.width a.height a.count a.stride c.args.bytes _ (sym c.in_err-check_geometry.ensures)))

pub nonzero_div-bytes : goal.nonzero_div-bytes
nonzero_div-bytes c = omega (arith, (frames (goal.at.nonzero_div-bytes c).In_ok-check_count).some)

pub needed_bytes-requires : goal.needed_bytes-requires
needed_bytes-requires c =
    let p = plane (goal.at.needed_bytes-requires c).In_ok-check_geometry in (p.high, omega (arith, p.room, c.ranges.bytes.fits))

pub returns-then-bytes-lent : goal.returns-then-bytes-lent
returns-then-bytes-lent c =
    let a = c.args.lent in
    rw c.new.ensures (sym (on-count a.width a.height a.count a.stride c.args.bytes 16 _ (sym c.in_ok-check_count.ensures)
    ∙ on-geometry a.width a.height a.count a.stride c.args.bytes _ (sym c.in_ok-check_geometry.ensures)
    ∙ short a.width a.height a.count a.stride c.args.bytes (frames (goal.at.returns-then-bytes-lent c).In_ok-check_count).some
    (rw c.needed_bytes.ensures at c.if-bytes-lent.true)))

pub returns : goal.returns
returns c =
    let a = c.args.lent in
    sym (on-count a.width a.height a.count a.stride c.args.bytes 16 _ (sym c.in_ok-check_count.ensures)
    ∙ on-geometry a.width a.height a.count a.stride c.args.bytes _ (sym c.in_ok-check_geometry.ensures)
    ∙ enough a.width a.height a.count a.stride c.args.bytes (frames (goal.at.returns c).In_ok-check_count).some
    (rw c.needed_bytes.ensures at c.if-bytes-lent.false))
