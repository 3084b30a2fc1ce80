use Rattle.ordered.proofs.table.+cell.Given as goal

-- `ordered::table::cell` meets its contract. The measure is the side, which halves at each call.
-- Assumes nothing.
abbrev pub decreases-cell : goal.decreases-cell
decreases-cell l = l.side
