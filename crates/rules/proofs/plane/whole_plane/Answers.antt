use native.Mathlib.Omega.{arith}
use mathlib.Core.Path.{◌∙◌}
use Rattle.rules.proofs.PlaneWritten.{flat-there, flat-is}
use Rattle.rules.proofs.plane.whole_plane.Goals as goal

pub threshold_bytes-requires : goal.threshold_bytes-requires
threshold_bytes-requires c =
    let a = c.args in
    let l = a.layout in
    omega (arith, flat-there a.bound a.gray.now l.width l.height c.if-layout-eq0.true, l.total_is, c.requires.0, c.requires.1)

pub returns-then-layout-eq0 : goal.returns-then-layout-eq0
returns-then-layout-eq0 c =
    let a = c.args in
    c.threshold_bytes.ensures
    ∙ flat-is a.bound a.gray.now a.layout.width a.layout.height c.if-layout-eq0.true _ (c.requires.1 ∙ a.layout.total_is)
