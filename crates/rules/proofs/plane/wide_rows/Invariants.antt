use Prim.Native.Nat.{◌-◌}
use Rattle.rules.proofs.PlaneWritten.{RowsTo}
use Rattle.rules.proofs.plane.wide_rows.Given as goal

-- `rules::plane::wide_rows` meets its contract: a row more with each turn.
-- Assumes nothing.
abbrev pub invariant-loop-y : goal.invariant-loop-y
invariant-loop-y l = RowsTo l.bound l.width l.height l.gray l.initial.out l.out l.at l.to l.y

abbrev pub decreases-loop-y : goal.decreases-loop-y
decreases-loop-y l = l.height - l.y
