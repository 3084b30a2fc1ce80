use Prim.Native.Nat.{ℕ, ◌-◌}
use mathlib.Core.List.{List}
use lib.ListN.{length}
use Rattle.rules.specs.Internal.Planes.{PlaneFits}
use Rattle.rules.proofs.PlaneWritten.{RowsTo}
use Rattle.rules.proofs.plane.threshold_rows.Given as goal

-- `rules::plane::threshold_rows` meets its contract: the rows at the front, and a row more with each turn.
-- Assumes nothing.
abbrev pub invariant-loop-y : goal.invariant-loop-y
invariant-loop-y l =
    let w = l.layout.width in
    let h = l.layout.height in
    (before : List ℕ) → PlaneFits l.layout (length l.gray) (length before)
    → RowsTo l.bound w h l.gray before l.initial.out l.initial.at l.initial.to l.initial.y
    → RowsTo l.bound w h l.gray before l.out l.at l.to l.y

abbrev pub decreases-loop-y : goal.decreases-loop-y
decreases-loop-y l = l.layout.height - l.y
