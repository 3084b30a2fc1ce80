use Prim.Native.Nat.{ℕ, ◌*◌, ◌/◌, ◌<◌}
use mathlib.Core.Path.{◌≡◌, subst}
use native.Mathlib.Nat.{add-zero}
use native.Mathlib.Omega.{arith}
use Rattle.ordered.specs.Internal.Sides.{Cell}
use Rattle.ordered.proofs.OrderedNumbers.{cell-one, cell-more, upper-left, upper-right, lower-left, lower-right}
use Rattle.ordered.proofs.table.+cell.Goals as goal

-- a side of 2 at least has a half
half : (side : ℕ) → (side ≡ 1 → ⊥) → 0 < side → 0 < side / 2
half side h p = omega arith

pub returns-then-side-eq1 : goal.returns-then-side-eq1
returns-then-side-eq1 t c = let a = c.args in rw c.if-side-eq1.true (cell-one a.x a.y)

pub returns-in-true-true : goal.returns-in-true-true
returns-in-true-true t c =
    let a = c.args in
    subst (λ (n : ℕ). Cell a.side a.x a.y n) (add-zero (4 * c.cell-n.result))
    (cell-more a.side a.x a.y c.cell-n.result 0 c.if-side-eq1.false c.requires.0 c.cell-n.ensures (omega arith)
    (upper-left _ _ _ (half a.side c.if-side-eq1.false c.requires.0) c.in-true-true.is-0 c.in-true-true.is-1))

pub returns-in-false-true : goal.returns-in-false-true
returns-in-false-true t c =
    let a = c.args in
    cell-more a.side a.x a.y c.cell-n.result 2 c.if-side-eq1.false c.requires.0 c.cell-n.ensures (omega arith)
    (upper-right _ _ _ (half a.side c.if-side-eq1.false c.requires.0) c.in-false-true.is-0 c.in-false-true.is-1)

pub returns-in-true-false : goal.returns-in-true-false
returns-in-true-false t c =
    let a = c.args in
    cell-more a.side a.x a.y c.cell-n.result 3 c.if-side-eq1.false c.requires.0 c.cell-n.ensures (omega arith)
    (lower-left _ _ _ (half a.side c.if-side-eq1.false c.requires.0) c.in-true-false.is-0 c.in-true-false.is-1)

pub returns-in-false-false : goal.returns-in-false-false
returns-in-false-false t c =
    let a = c.args in
    cell-more a.side a.x a.y c.cell-n.result 1 c.if-side-eq1.false c.requires.0 c.cell-n.ensures (omega arith)
    (lower-right _ _ _ (half a.side c.if-side-eq1.false c.requires.0) c.in-false-false.is-0 c.in-false-false.is-1)
