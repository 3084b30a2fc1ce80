use mathlib.Core.Path.{◌≡◌}
use Rattle.rules.specs.Bits.{appended}
use Rattle.rules.specs.Internal.Kernels.{threshold_bit}
use Rattle.rules.proofs.threshold.threshold_dots.Given as goal

abbrev pub invariant-loop-sample : goal.invariant-loop-sample
invariant-loop-sample l = l.digits ≡ appended l.begun (threshold_bit l.bound l.gray) l.sample-index
