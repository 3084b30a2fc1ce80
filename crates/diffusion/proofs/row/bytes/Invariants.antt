use Rattle.diffusion.proofs.RowBytes.{BytesRun}
use Rattle.diffusion.proofs.row.bytes.Given as goal

-- `diffusion::row::bytes` meets its contract.
-- Assumes nothing.
abbrev pub invariant-loop-j : goal.invariant-loop-j
invariant-loop-j l = BytesRun l.gray l.last l.initial.j l.initial.f l.initial.out l.initial.work l.j l.f l.out l.work
