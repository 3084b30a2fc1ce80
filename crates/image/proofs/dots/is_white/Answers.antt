use Prim.Native.Nat.{◌+◌, ◌*◌, ◌/◌, ◌<◌}
use mathlib.Core.Path.{sym}
use mathlib.Core.Logic.{inl, inr}
use native.Mathlib.Omega.{arith}
use lib.ListN.{length}
use Rattle.image.proofs.DotsSame.{right_of, below, seen, missing-bit, read-bit}
use Rattle.image.proofs.RowStarts.{Started, started, missed}
use Rattle.image.proofs.dots.is_white.Goals as goal
use Rattle.image.proofs.dots.is_white.Goals.{In-Some}

pub returns-then-x-width : goal.returns-then-x-width
returns-then-x-width c =
    let a = c.args in
    elim c.then-x-width.either [
      | inl p ↦ sym (right_of a.format a.width a.height a.stride a.plane.now a.x a.y (omega arith))
      | inr p ↦ sym (below a.format a.width a.height a.stride a.plane.now a.x a.y (omega arith) (omega arith))
    ]

-- the byte is in the plane
begun : (c : In-Some)
    → let a = c.args in
    Started (length a.plane.now) a.stride a.y (a.x / 8 + 1) c.in-Some.at
begun c = started _ _ _ _ _ _ c.row_start.ensures c.in-Some.is

pub overflow_add-at : goal.overflow_add-at
overflow_add-at c = omega (arith, begun (goal.at.overflow_add-at c).In-Some)

pub bounds-plane-at : goal.bounds-plane-at
bounds-plane-at c = omega (arith, begun (goal.at.bounds-plane-at c).In-Some)

pub returns-in-Some : goal.returns-in-Some
returns-in-Some c =
    let a = c.args in
    seen a.format a.width a.height a.stride a.plane.now a.x a.y (omega arith) (omega arith) c.bit.result
    c.white_bit-white.result
    (read-bit a.stride a.plane.now a.x a.y _ _ (begun (goal.at.returns-in-Some c).In-Some).place c.bit.ensures)
    c.white_bit-white.ensures

pub returns-in-None : goal.returns-in-None
returns-in-None c =
    let a = c.args in
    let p : length a.plane.now < a.y * a.stride + (a.x / 8 + 1) =
    missed _ _ _ _ _ c.row_start.ensures c.in-None.is in
    seen a.format a.width a.height a.stride a.plane.now a.x a.y (omega arith) (omega arith) 0
    c.white_bit-white.result
    (sym (missing-bit a.stride a.plane.now a.x a.y (omega arith))) c.white_bit-white.ensures
