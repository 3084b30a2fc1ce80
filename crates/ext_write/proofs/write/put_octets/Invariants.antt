use Rattle.ext_write.proofs.OctetsWritten.{Putting}
use Rattle.ext_write.proofs.write.put_octets.Given as goal

abbrev pub invariant-loop-i : goal.invariant-loop-i
invariant-loop-i l = Putting l.text l.initial.out l.out l.i
