use Prim.Native.Nat.{◌-◌, ◌%◌}
use native.Mathlib.Omega.{arith}
use Rattle.image.proofs.FillLoop.{filled-over, rest-filled}
use Rattle.image.proofs.rows.copy_at.Goals as goal

pub returns-else-to-lt16 : goal.returns-else-to-lt16
returns-else-to-lt16 c =
    let front = filled-over c.args.to.now 16 (16 - c.args.at % 16) c.requires (omega arith) (omega arith) c.copy_front.ensures in
    rest-filled front _ c.copy.ensures
