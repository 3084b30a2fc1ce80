use Rattle.dither.proofs.DitherBytesLoop.{Chain}
use Rattle.dither.proofs.row.dither_bytes.Given as goal

-- `dither::row::dither_bytes` meets its contract.
-- Assumes nothing.
abbrev pub invariant-loop-k : goal.invariant-loop-k
invariant-loop-k l = Chain l.start.width l.start.y l.start.column l.samples l.corner l.initial.work l.count l.out l.work l.near l.k
