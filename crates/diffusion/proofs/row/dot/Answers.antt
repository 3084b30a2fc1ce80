use Prim.Native.Nat.{ℕ, ◌+◌, ◌<◌}
use mathlib.Core.Path.{◌≡◌}
use native.Mathlib.Omega.{arith}
use lib.IntN.{nat_abs}
use lib.ListN.{get_or}
use mir.Syntax.{w16}
use mir.Val.{to_z, of_z}
use mir.ValLaws.{to_z-of_z}
use Rattle.diffusion.proofs.DotStep.{parts-lt, index_in, dot-passed}
use Rattle.diffusion.proofs.row.dot.Goals as goal
use Rattle.diffusion.proofs.row.dot.Goals.{Start}

-- `diffusion::row::dot` meets its contract.
-- Assumes nothing.
same : (s : Start) → to_z w16 (of_z w16 s.args.sum) ≡ s.args.sum
same s = to_z-of_z w16 s.args.sum s.ranges.sum

abbrev index : Start → ℕ
index s = s.args.gray + nat_abs (to_z w16 (of_z w16 s.args.sum)) + s.args.f.right

below : (s : Start) → index s < 512
below s = let a = s.args in index_in a.tables.now.rights a.tables.now.downs a.f a.gray _ a.sum (same s) s.requires (omega arith)

entry : (s : Start) → get_or s.args.tables.now.downs (index s) 0 < 1069105
entry s = omega (arith, s.args.tables.now.downs_are (index s) (below s), parts-lt (index s) (below s))

pub overflow_add-result : goal.overflow_add-result
overflow_add-result c = omega (arith, entry (goal.at.overflow_add-result c).Start)

pub returns : goal.returns
returns c =
    let a = c.args in
    dot-passed a.tables.now.rights a.tables.now.downs a.f a.gray _ a.sum (same (goal.at.returns c).Start) c.requires (omega arith) a.tables.now.rights_are a.tables.now.downs_are
