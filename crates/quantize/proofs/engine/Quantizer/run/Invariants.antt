use Prim.Native.Nat.{◌-◌}
use lib.ListN.{length}
use Rattle.quantize.proofs.RunLoop.{Loop}
use Rattle.quantize.proofs.engine.Quantizer.run.Given as goal

-- `quantize::engine::Quantizer::run` meets its contract.
-- Assumes nothing.
abbrev pub invariant-loop-p : goal.invariant-loop-p
invariant-loop-p l = Loop l.self l.samples l.initial.out l.initial.work l.out l.work l.p l.taken l.written

abbrev pub decreases-loop-p : goal.decreases-loop-p
decreases-loop-p l = length l.samples - l.taken
