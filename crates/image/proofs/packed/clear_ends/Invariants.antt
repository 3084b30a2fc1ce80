use Rattle.image.proofs.RowEndsCleared.{ClearedTo}
use Rattle.image.proofs.packed.clear_ends.Given as goal

abbrev pub invariant-loop-y : goal.invariant-loop-y
invariant-loop-y l = ClearedTo l.width l.at l.row l.mask l.begun l.initial.bytes l.bytes l.y
