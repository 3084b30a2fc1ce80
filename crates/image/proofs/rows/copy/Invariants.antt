use Prim.Native.Nat.{◌-◌}
use Rattle.image.proofs.FillLoop.{FilledTo}
use Rattle.image.proofs.rows.copy.Given as goal

abbrev pub invariant-loop-i : goal.invariant-loop-i
invariant-loop-i l = FilledTo l.from l.initial.to l.to l.i

abbrev pub decreases-loop-i : goal.decreases-loop-i
decreases-loop-i l = l.n - l.i
