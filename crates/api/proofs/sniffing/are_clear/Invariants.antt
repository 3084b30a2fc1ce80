use Prim.Native.Nat.{◌*◌}
use Rattle.api.proofs.RowsWalked.{Walked}
use Rattle.api.proofs.sniffing.are_clear.Given as goal

abbrev pub invariant-loop-turn : goal.invariant-loop-turn
invariant-loop-turn l = Walked l.body l.row l.mask l.rows (8 * l.turn)

abbrev pub invariant-loop-y : goal.invariant-loop-y
invariant-loop-y l = Walked l.body l.row l.mask l.rows l.y
