use Prim.Native.Nat.{ℕ, ◌%◌, ◌<◌}
use mathlib.Core.Path.{◌≡◌}
use mathlib.Core.Bool.{true}
use lib.ListN.{get_or}
use Rattle.dither.proofs.row.plain.Given as goal

-- `dither::row::plain` meets its contract.
-- Assumes nothing.
abbrev pub invariant-loop-sample : goal.invariant-loop-sample
invariant-loop-sample l = l.plain ≡ true → (i : ℕ) → i < l.sample-index → get_or l.samples i 0 % 255 ≡ 0
