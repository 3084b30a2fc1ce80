use mathlib.Core.Path.{◌≡◌}
use Rattle.rules.specs.Bits.{appended}
use Rattle.ordered.specs.Internal.Sides.{ordered_bit}
use Rattle.ordered.proofs.dots.ordered_dots.Given as goal

-- `ordered::dots::ordered_dots` meets its contract: a dot more with each sample.
-- Assumes nothing.
abbrev pub invariant-loop-i : goal.invariant-loop-i
invariant-loop-i l = l.digits ≡ appended l.begun (ordered_bit l.side l.table l.y l.column l.gray) l.i
