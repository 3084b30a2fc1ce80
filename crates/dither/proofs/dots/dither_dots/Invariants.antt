use Rattle.dither.proofs.DitherDotsLoop.{Inv}
use Rattle.dither.proofs.dots.dither_dots.Given as goal

-- `dither::dots::dither_dots` meets its contract.
-- Assumes nothing.
abbrev pub invariant-loop-i : goal.invariant-loop-i
invariant-loop-i l =
    Inv l.start.width l.start.y l.start.column l.gray l.begun l.fn.near.corner l.initial.work l.work
    l.next.left l.digits l.next.corner l.next.above l.i
