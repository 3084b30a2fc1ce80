use Prim.Native.Nat.{ℕ, ◌+◌, ◌*◌}
use mathlib.Core.Path.{◌≡◌, subst}
use native.Mathlib.Nat.{add-mul}
use native.Mathlib.Omega.{arith}
use Rattle.image.specs.Geometry.{row_bytes}
use Rattle.diffusion.specs.Internal.RowByRow.{PlainRows}
use Rattle.diffusion.proofs.RowsGoing.{plain-begun, plain_more, plain_end}
use Rattle.diffusion.proofs.RowsLoop.{rows-moved}
use Rattle.diffusion.proofs.rows.plain_rows.Goals as goal

pub loop-y-init : goal.loop-y-init
loop-y-init c =
    let a = c.args in
    let p = a.layout in
    rows-moved (0 * p.width) (0 * p.stride) (plain-begun p.width p.height a.gray.now a.out.now) (omega arith) (omega arith)

pub returns-then-not-plain_row : goal.returns-then-not-plain_row
returns-then-not-plain_row c =
    let e = c.args.layout.stride_is in
    rw e (plain_end c.requires (rw e at c.loop-y.invariant) c.loop-y-test.true c.plain_row.result
    c.plain_row.new.out (rw e at c.plain_row.auto.out))

pub loop-y-preserved : goal.loop-y-preserved
loop-y-preserved c =
    let p = c.args.layout in
    let y = c.loop-y.y in
    let s = row_bytes p.width in
    rw p.stride_is
    (rows-moved ((y + 1) * p.width) ((y + 1) * s)
    (plain_more c.requires (rw p.stride_is at c.loop-y.invariant) c.loop-y-test.true _ _ (λ i. let f = c.type_inv.gray i in omega arith)
    c.if-not-plain_row.false (rw p.stride_is at c.plain_row.ensures))
    (omega (arith, add-mul y 1 p.width)) (omega (arith, add-mul y 1 s)))

pub returns : goal.returns
returns c =
    let a = c.args in
    let i = c.loop-y.invariant in
    let p = a.layout in
    let e : c.loop-y.y ≡ p.height = omega (arith, i.most, c.loop-y-test.false) in
    subst (λ (y : ℕ). PlainRows p.width p.height a.gray.now a.out.now y c.loop-y.out) e
    (record { most = i.most; level = i.given.are; written = i.written })
