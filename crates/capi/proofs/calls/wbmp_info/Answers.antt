use mathlib.Core.Path.{sym, subst}
use native.Mathlib.Omega.{arith}
use Rattle.capi.proofs.RefusalPlaces.{Numbered, info-numbered}
use Rattle.capi.proofs.calls.wbmp_info.Goals as goal

pub pack-requires : goal.pack-requires
pack-requires c = let t = subst Numbered (sym c.in-Err.ensures) (info-numbered c.args.bytes.now) in omega (arith, t.near)
