use mathlib.Core.Path.{sym}
use native.Mathlib.Omega.{arith}
use Rattle.image.proofs.InvertedBytes.{invert-at}
use Rattle.image.proofs.FillLoop.{filled}
use Rattle.image.proofs.rows.invert_from.Goals as goal

pub loop-i-preserved : goal.loop-i-preserved
loop-i-preserved c = filled c.loop-i.invariant _ c.loop-i-test.true (sym (invert-at c.args.from.now c.loop-i.i (omega arith)))
