use Prim.Native.Nat.{◌-◌}
use Rattle.rules.proofs.PlaneWritten.{RowsTo}
use Rattle.rules.proofs.plane.narrow_rows.Given as goal

-- `rules::plane::narrow_rows` meets its contract: two rows more with each turn.
-- Assumes nothing.
abbrev pub invariant-loop-y : goal.invariant-loop-y
invariant-loop-y l = RowsTo l.bound l.layout.width l.layout.height l.gray l.initial.out l.out l.at l.y l.y

abbrev pub decreases-loop-y : goal.decreases-loop-y
decreases-loop-y l = l.layout.height - l.y
