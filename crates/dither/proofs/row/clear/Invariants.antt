use Prim.Native.Nat.{ℕ, ◌<◌}
use mathlib.Core.Path.{◌≡◌}
use mathlib.Core.Bool.{true}
use lib.IntN.{pos}
use lib.ListN.{get_or}
use Rattle.dither.proofs.row.clear.Given as goal

-- `dither::row::clear` meets its contract.
-- Assumes nothing.
abbrev pub invariant-loop-number : goal.invariant-loop-number
invariant-loop-number l = l.clear ≡ true → (i : ℕ) → i < l.number-index → get_or l.work i (pos 0) ≡ pos 0
