use native.Mathlib.Omega.{arith}
use borrow.Author.Rules.{rules}
use Rattle.dither.proofs.CarryRead.{over-in, over-past}
use Rattle.dither.proofs.DitherDotsLoop.{biased-zero}
use Rattle.dither.proofs.dots.over.Goals as goal

pub returns-then-x-reach : goal.returns-then-x-reach
returns-then-x-reach c =
    let a = c.args in
    rw (over-in a.reach a.work.now 1 a.x (omega arith) c.if-x-reach.true)
    (search rules)

pub returns-else-x-reach : goal.returns-else-x-reach
returns-else-x-reach c =
    let a = c.args in
    rw (over-past a.reach a.work.now 1 a.x (omega arith) c.if-x-reach.false) biased-zero
