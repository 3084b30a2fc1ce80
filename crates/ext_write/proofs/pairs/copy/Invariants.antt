use Rattle.std.proofs.Common.{◌≡◌}
use lib.Seq.{paste}
use Rattle.ext_write.proofs.pairs.copy.Given as goal

abbrev pub invariant-loop-i : goal.invariant-loop-i
invariant-loop-i l = l.to ≡ paste l.initial.to 0 l.from l.i
