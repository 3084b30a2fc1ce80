use mathlib.Core.Path.{refl}
use native.Mathlib.Omega.{arith}
use Rattle.image.proofs.FillLoop.{begun, kept-length, filled, done}
use Rattle.image.proofs.rows.copy_bytes.Goals as goal

pub loop-i-init : goal.loop-i-init
loop-i-init c = begun c.requires

pub bounds-from-i : goal.bounds-from-i
bounds-from-i c = omega (arith, kept-length c.loop-i.invariant)

pub bounds-to-i : goal.bounds-to-i
bounds-to-i c = omega arith

pub overflow_add-i : goal.overflow_add-i
overflow_add-i c = omega arith

pub loop-i-smaller : goal.loop-i-smaller
loop-i-smaller c = omega (arith, kept-length c.loop-i.invariant)

pub loop-i-preserved : goal.loop-i-preserved
loop-i-preserved c =
    let i = c.loop-i.invariant in
    let e = kept-length i in
    filled i _ (omega arith) refl

pub shape_of-to : goal.shape_of-to
shape_of-to c = kept-length c.loop-i.invariant

pub returns : goal.returns
returns c = done c.loop-i.invariant (omega (arith, kept-length c.loop-i.invariant))
