use Prim.Native.Nat.{◌*◌}
use Rattle.diffusion.proofs.RowsGoing.{RowsGoing}
use Rattle.diffusion.proofs.rows.rows_from.Given as goal

abbrev pub invariant-loop-y : goal.invariant-loop-y
invariant-loop-y l =
    RowsGoing l.layout.width l.layout.height l.gray l.initial.out l.initial.work l.work l.out l.level
    (l.y * l.layout.width) (l.y * l.layout.stride) l.y
