use Rattle.std.proofs.Common.{◌≡◌, sym, arith}
use Rattle.std.proofs.lemmas.Result.{err_from_is_err_and}
use native.Mathlib.Nat.{mul-pos}
use Rattle.error.specs.Answer.{gives}
use Rattle.encoder.specs.File.{check_count}
use Rattle.encoder.proofs.CountTests.{counted}
use Rattle.encoder.proofs.ScanTests.{not-counted, not-served, too_short, long-enough}
use Rattle.encoder.proofs.gray8.check_scans.Goals as goal
use Rattle.encoder.proofs.gray8.check_scans.Goals.{In_ok-check_count}

-- what passed before the test of the rule
sized : (c : In_ok-check_count) → let a = c.args.scans in check_count 16 a.width a.height a.count ≡ gives tt
sized c = sym c.in_ok-check_count.ensures

pub returns-in_err-check_count : goal.returns-in_err-check_count
returns-in_err-check_count c =
    let a = c.args in
    let p = err_from_is_err_and c.from_residual.result c.from_residual.ensures.1 in
    rw (p.1, p.2) (sym (not-counted 16 a.options a.scans.width a.scans.height a.scans.count a.gray a.work _ _
    (sym c.in_err-check_count.ensures)))

pub returns-in_err-check_rule : goal.returns-in_err-check_rule
returns-in_err-check_rule c =
    let a = c.args in
    let p = err_from_is_err_and c.from_residual-in_err-check_rule.result c.from_residual-in_err-check_rule.ensures.1 in
    rw (p.1, p.2) (sym (not-served 16 a.options a.scans.width a.scans.height a.scans.count a.gray a.work
    (sized (goal.at.returns-in_err-check_rule c).In_ok-check_count) _ _ c.in_err-check_rule.ensures))

pub nonzero_div-gray : goal.nonzero_div-gray
nonzero_div-gray c =
    let a = c.args.scans in
    let s = counted 16 a.width a.height a.count (sized (goal.at.nonzero_div-gray c).In_ok-check_count) in
    omega (arith, mul-pos s.wide s.high)

pub returns-then-gray-area : goal.returns-then-gray-area
returns-then-gray-area c =
    let a = c.args in
    rw c.new.ensures
    (sym (too_short 16 a.options a.scans.width a.scans.height a.scans.count a.gray a.work
    (sized (goal.at.returns-then-gray-area c).In_ok-check_count) c.in_ok-check_rule.ensures c.if-gray-area.true))

pub returns : goal.returns
returns c =
    let a = c.args in
    sym (long-enough 16 a.options a.scans.width a.scans.height a.scans.count a.gray a.work (sized (goal.at.returns c).In_ok-check_count)
    c.in_ok-check_rule.ensures c.if-gray-area.false)
