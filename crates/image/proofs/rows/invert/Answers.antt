use Prim.Native.Nat.{◌-◌}
use mathlib.Core.Path.{ap, sym, ◌∙◌}
use Rattle.image.proofs.InvertedBytes.{invert-at}
use Rattle.image.proofs.FillLoop.{next-is, filled}
use Rattle.image.proofs.rows.invert.Goals as goal

pub loop-b-preserved : goal.loop-b-preserved
loop-b-preserved c =
    let f = c.loop-b.invariant in
    let at = c.loop-b.b-index in
    filled f _ c.loop-b-test.true
    (ap (λ b. 255 - b) (next-is f c.loop-b-test.true) ∙ sym (invert-at c.args.row.now at c.loop-b-test.true))
