use Rattle.header_pieces.proofs.RunStored.{KeptSo}
use Rattle.header_pieces.proofs.keep_run.Given as goal

abbrev pub invariant-loop-i : goal.invariant-loop-i
invariant-loop-i l = KeptSo l.initial.ext l.run l.kept l.ext l.i
