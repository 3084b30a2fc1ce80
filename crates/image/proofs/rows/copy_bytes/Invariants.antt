use Prim.Native.Nat.{◌-◌}
use lib.ListN.{length}
use Rattle.image.proofs.FillLoop.{FilledTo}
use Rattle.image.proofs.rows.copy_bytes.Given as goal

abbrev pub invariant-loop-i : goal.invariant-loop-i
invariant-loop-i l = FilledTo l.from l.initial.to l.to l.i

abbrev pub decreases-loop-i : goal.decreases-loop-i
decreases-loop-i l = length l.initial.to - l.i
