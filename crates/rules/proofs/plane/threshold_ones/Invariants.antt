use mathlib.Core.Path.{◌≡◌}
use Rattle.rules.specs.Packed.{byte_at}
use Rattle.rules.specs.Internal.Kernels.{threshold_bit}
use Rattle.rules.proofs.UptoOverlaid.{overlaid}
use Rattle.rules.proofs.plane.threshold_ones.Given as goal

-- `rules::plane::threshold_ones` meets its contract: a byte more with each sample.
-- Assumes nothing.
abbrev pub invariant-loop-i : goal.invariant-loop-i
invariant-loop-i l = l.out ≡ overlaid l.i (byte_at 1 (threshold_bit l.bound l.gray)) l.initial.out
