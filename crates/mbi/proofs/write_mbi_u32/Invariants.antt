use Rattle.mbi.proofs.WriteLoop.{Filling}
use Rattle.mbi.proofs.write_mbi_u32.Given as goal

abbrev pub invariant-loop-k : goal.invariant-loop-k
invariant-loop-k l = Filling l.initial.v l.initial.k l.initial.out l.v l.k l.out
