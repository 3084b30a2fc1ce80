use mathlib.Core.Path.{sym, subst}
use native.Mathlib.Omega.{arith}
use Rattle.capi.proofs.RefusalPlaces.{Numbered, asked-numbered}
use Rattle.capi.proofs.calls.wbmp_read.Goals as goal

pub pack-requires : goal.pack-requires
pack-requires c =
    let t = subst Numbered (sym c.in-Err.ensures.answer) (asked-numbered _ _ _ _ _ _ _ _) in
    omega (arith, t.near)
