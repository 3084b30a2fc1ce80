use native.Mathlib.Omega.{arith}
use Rattle.rules.proofs.PlaneWritten.{rows_none, two-more}
use Rattle.rules.proofs.plane.narrow_rows.Goals as goal

pub loop-y-init : goal.loop-y-init
loop-y-init c = let a = c.args in rows_none a.bound a.layout.width a.layout.height a.gray.now a.out.now

pub loop-y-preserved : goal.loop-y-preserved
loop-y-preserved c =
    two-more c.args.layout c.requires.0 c.loop-y.invariant c.requires.1.0 c.requires.1.1 (omega (arith, c.loop-y-test.true))
    c.byte-dots.result c.byte-dots.ensures
