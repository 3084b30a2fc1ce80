use Prim.Native.Nat.{◌+◌, ◌*◌, ◌/◌, ◌<◌}
use mathlib.Core.Path.{◌≡◌, refl, subst}
use native.Mathlib.Nat.{div-mul-le_self, le-div_iff_mul-le}
use native.Mathlib.Omega.{arith}
use lib.ListN.{length}
use Rattle.api.proofs.RowsClear.{end-in}
use Rattle.api.proofs.RowsWalked.{Walked, begun, ended, one_on, one-off, eight-on, eight-off}
use Rattle.api.proofs.sniffing.are_clear.Goals as goal

pub returns-then-first-mask : goal.returns-then-first-mask
returns-then-first-mask c =
    let a = c.args in
    let some : 0 < length a.body.now / a.row = (le-div_iff_mul-le {x = 1} c.requires.0).1 (omega (arith, c.requires.1)) in
    one-off _ _ _ _ 0 (begun _ _ _ _) (λ i. omega (arith, c.type_inv.body i)) _ (omega arith) some c.if-first-mask.true

pub loop-turn-init : goal.loop-turn-init
loop-turn-init c = begun _ _ _ _

pub eight_ends-ends-requires : goal.eight_ends-ends-requires
eight_ends-ends-requires c =
    let a = c.args in
    let n = length a.body.now in
    end-in (n / a.row) a.row n (8 * c.loop-turn.turn) _ 7 c.requires.0 (div-mul-le_self n a.row) refl (omega arith)

pub returns-then-ends-mask : goal.returns-then-ends-mask
returns-then-ends-mask c =
    eight-off _ _ _ _ _ c.loop-turn.invariant (λ i. omega (arith, c.type_inv.body i)) _ refl _ c.eight_ends-ends.ensures (omega arith)
    c.if-ends-mask.true

pub loop-turn-preserved : goal.loop-turn-preserved
loop-turn-preserved c =
    let e : 8 * c.loop-turn.turn + 8 ≡ 8 * (c.loop-turn.turn + 1) = omega arith in
    subst (Walked _ _ _ _) e
    (eight-on _ _ _ _ _ c.loop-turn.invariant (λ i. omega (arith, c.type_inv.body i)) _ refl _ c.eight_ends-ends.ensures (omega arith)
    c.if-ends-mask.false)

pub loop-y-init : goal.loop-y-init
loop-y-init c =
    let e : 8 * c.loop-turn.turn ≡ length c.args.body.now / c.args.row / 8 * 8 = omega arith in
    subst (Walked _ _ _ _) e c.loop-turn.invariant

pub returns-then-end-mask : goal.returns-then-end-mask
returns-then-end-mask c =
    one-off _ _ _ _ _ c.loop-y.invariant (λ i. omega (arith, c.type_inv.body i)) _ refl c.loop-y-test.true c.if-end-mask.true

pub loop-y-preserved : goal.loop-y-preserved
loop-y-preserved c =
    one_on _ _ _ _ _ c.loop-y.invariant (λ i. omega (arith, c.type_inv.body i)) _ refl c.loop-y-test.true c.if-end-mask.false

pub returns : goal.returns
returns c = ended _ _ _ _ _ c.loop-y.invariant c.loop-y-test.false
