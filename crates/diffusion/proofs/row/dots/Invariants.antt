use Rattle.diffusion.proofs.RowGrows.{DotsRun}
use Rattle.diffusion.proofs.row.dots.Given as goal

-- `diffusion::row::dots` meets its contract.
-- Assumes nothing.
abbrev pub invariant-loop-i : goal.invariant-loop-i
invariant-loop-i l = DotsRun l.gray l.x l.end l.initial.s l.initial.work l.i l.s l.work
