-- Signed arithmetic: what `to_held` and `from_held` compute, by the sign of their argument.
-- Assumes nothing.
use mathlib.Core.Path.{◌≡◌, sym, ap, ◌∙◌}
use mathlib.Core.Bool.{true, false}
use Prim.Native.Nat.{suc, ◌+◌, ◌-◌}
use native.Mathlib.Omega.{arith}
use lib.Dec.{T}
use lib.IntN.{ℤ, pos, negsuc, nat_abs, ◌+ℤ◌}
use lib.Signed.{lt_z, non_neg}
use mir.Syntax.{w16, w32}
use mir.Val.{Fits, SFits}
use borrow.Author.Tests.{ltb-true, ltb-false}
use Rattle.dither.specs.Internal.Carry.{clamp}
use Rattle.rules.specs.Internal.Held.{Biased}
use Rattle.rules.proofs.Differences.{sub-neg, sub-pos}
use Rattle.rules.proofs.EntryTold.{never}

-- a number of 16 bits is one of 32
pub wider : (z : ℤ) → SFits w16 z → SFits w32 z
wider (pos n) f = let h = f.sfits in record { sfits = omega arith }
wider (negsuc n) f = let h = f.sfits in record { sfits = omega arith }

-- `to_held`: below the range, above it, and within
pub to-held-low : (z : ℤ) → lt_z z (negsuc 127) ≡ true → Biased (clamp z) 0
to-held-low (pos n) t = never t
to-held-low (negsuc n) t = let h = ltb-true 127 n t in record { is = ap negsuc (omega arith); small = omega arith }

pub to-held-high : (z : ℤ) → lt_z (pos 128) z ≡ true → Biased (clamp z) 256
to-held-high (pos n) t = let h = ltb-true 128 n t in record { is = ap pos (omega arith); small = omega arith }
to-held-high (negsuc n) t = never t

pub to-held-add : (z : ℤ) → lt_z z (negsuc 127) ≡ false → lt_z (pos 128) z ≡ false → SFits w32 (z +ℤ pos 128)
to-held-add (pos n) t u = let h = ltb-false 128 n u in record { sfits = omega arith }
to-held-add (negsuc n) t u = let h = ltb-false 127 n t in rw (sub-pos 128 (suc n) (omega arith)) (record { sfits = omega arith })

pub to-held-cast : (z : ℤ) → lt_z z (negsuc 127) ≡ false → lt_z (pos 128) z ≡ false
    → T (non_neg (z +ℤ pos 128)) × Fits w32 (nat_abs (z +ℤ pos 128))
to-held-cast (pos n) t u = let h = ltb-false 128 n u in (tt, record { fits = omega arith })
to-held-cast (negsuc n) t u = let h = ltb-false 127 n t in rw (sub-pos 128 (suc n) (omega arith)) (tt, record { fits = omega arith })

pub to-held-mid : (z : ℤ) → lt_z z (negsuc 127) ≡ false → lt_z (pos 128) z ≡ false → Biased (clamp z) (nat_abs (z +ℤ pos 128))
to-held-mid (pos n) t u =
    let h = ltb-false 128 n u in
    record { is = sym (sub-pos (n + 128) 128 (omega arith) ∙ ap pos (omega arith)); small = omega arith }
to-held-mid (negsuc n) t u =
    let h = ltb-false 127 n t in
    rw (sub-pos 128 (suc n) (omega arith))
    (record { is = sym (sub-neg (128 - suc n) 128 (omega arith) ∙ ap negsuc (omega arith)); small = omega arith })
