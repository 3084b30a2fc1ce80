use Prim.Native.Nat.{◌*◌}
use mathlib.Core.Path.{◌≡◌}
use Rattle.rules.specs.Bits.{digits}
use Rattle.rules.specs.Internal.Kernels.{threshold_from}
use Rattle.rules.proofs.UptoOverlaid.{overlaid}
use Rattle.rules.proofs.threshold.threshold_bytes.Given as goal

abbrev pub invariant-loop-k : goal.invariant-loop-k
invariant-loop-k l = l.out ≡ overlaid l.k (λ j. digits (threshold_from l.bound l.gray (8 * j)) 8) l.initial.out
