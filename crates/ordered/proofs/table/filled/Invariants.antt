use Prim.Native.Nat.{ℕ, ◌/◌, ◌%◌, ◌^◌}
use mathlib.Core.Path.{◌≡◌}
use lib.ListN.{length, replicate}
use Rattle.rules.specs.Ordered.{number}
use Rattle.rules.proofs.UptoOverlaid.{overlaid}
use Rattle.ordered.proofs.table.filled.Given as goal

-- `ordered::table::filled` meets its contract.
-- Assumes nothing.
-- the number at index j for the side 2 ^ k
abbrev pub number_at : ℕ → ℕ → ℕ
number_at k j = number k (j % 2 ^ k) (j / 2 ^ k)

abbrev pub invariant-loop-i : goal.invariant-loop-i
invariant-loop-i l = (length l.table ≡ 64) × ((k : ℕ) → l.side ≡ 2 ^ k → l.table ≡ overlaid l.i (number_at k) (replicate 64 0))
