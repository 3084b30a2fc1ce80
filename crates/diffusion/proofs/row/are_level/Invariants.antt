use Prim.Native.Nat.{ℕ, ◌<◌}
use mathlib.Core.Path.{◌≡◌}
use mathlib.Core.Bool.{true}
use lib.IntN.{pos}
use lib.ListN.{get_or}
use Rattle.diffusion.proofs.row.are_level.Given as goal

-- `diffusion::row::are_level` meets its contract.
-- Assumes nothing.
abbrev pub invariant-loop-sum : goal.invariant-loop-sum
invariant-loop-sum l = l.level ≡ true → (i : ℕ) → i < l.sum-index → get_or l.sums i (pos 0) ≡ pos 72
