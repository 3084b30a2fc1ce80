use Prim.Native.Nat.{◌*◌}
use Rattle.diffusion.specs.Internal.Sums.{none}
use Rattle.diffusion.proofs.RowsLoop.{RowsAt}
use Rattle.diffusion.proofs.rows.plain_rows.Given as goal

abbrev pub invariant-loop-y : goal.invariant-loop-y
invariant-loop-y l =
    RowsAt l.layout.width l.layout.height l.gray l.initial.out (λ x. none) l.out (l.y * l.layout.width) (l.y * l.layout.stride) l.y
