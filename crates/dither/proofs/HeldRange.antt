-- Every residual stays within -128 .. 128: some number of at most 256 holds it.
-- Assumes nothing.
use mathlib.Core.Path.{◌≡◌, sym, ap, ◌∙◌}
use mathlib.Core.Logic.{⊎_elim}
use Prim.Native.Nat.{ℕ, suc, ◌+◌, ◌*◌, ◌-◌, ◌/◌, ◌≤◌, ◌<◌, min}
use native.Mathlib.Omega.{arith}
use native.Mathlib.Nat.{mul-le-mul_left}
use lib.IntN.{ℤ, pos, negsuc, sub_ℕ, nat_abs}
use Rattle.rules.specs.Diffusion.{value, residual}
use Rattle.dither.specs.Internal.Carry.{clamp}
use Rattle.rules.specs.Internal.Held.{Biased}
use Rattle.dither.specs.Internal.Kernels.{Parted}
use Rattle.laws.proofs.Tests.{lt-or-le}
use Rattle.rules.proofs.Differences.{sub-neg, sub-pos, part-pos, part-neg, value-is, stepped-white, stepped-black}

-- some number holds z
pub record Held (z : ℤ) : Type 0 where
  pub n : ℕ
  pub holds : Biased z n

-- the range, said of the number itself
pub within : (z : ℤ) → Held z → nat_abs z ≤ 128
within z h =
    let k = h.holds.small in
    ⊎_elim
    (λ l. rw (h.holds.is, sub-neg h.n 128 l) (omega arith))
    (λ l. rw (h.holds.is, sub-pos h.n 128 l) (omega arith))
    (lt-or-le h.n 128)

pub held : (z : ℤ) → nat_abs z ≤ 128 → Held z
held (pos n) h =
    record { n = n + 128; holds = record { is = sym (sub-pos (n + 128) 128 (omega arith) ∙ ap pos (omega arith)); small = omega arith } }
held (negsuc n) h =
    record {
      n = 128 - suc n;
      holds = record { is = sym (sub-neg (128 - suc n) 128 (omega arith) ∙ ap negsuc (omega arith)); small = omega arith };
    }

-- a number within the range is clamped to itself, and every clamped number is within it
pub clamp-same : (z : ℤ) → nat_abs z ≤ 128 → clamp z ≡ z
clamp-same (pos n) h = ap pos (omega arith)
clamp-same (negsuc n) h = ap negsuc (omega arith)

pub clamp-held : (z : ℤ) → Held (clamp z)
clamp-held (pos n) = held (pos (min n 128)) (omega arith)
clamp-held (negsuc n) = held (negsuc (min n 127)) (omega arith)

record Rounded (k b : ℕ) : Type 0 where
  n : ℕ
  is : Parted k b n

rounded : (k b : ℕ) → b ≤ 256 → Rounded k b
rounded k b h =
    let e = mul-le-mul_left k h in
    ⊎_elim
    (λ l. record { n = (k * b + 7) / 16; is = record { is = part-neg k b l; small = omega arith } })
    (λ l. record { n = (k * b + 8) / 16; is = record { is = part-pos k b l; small = omega arith } })
    (lt-or-le b 128)

stepped-held : {z : ℤ} (v : ℕ) → z ≡ sub_ℕ v 128 → v ≤ 511 → Held (residual z)
stepped-held v e h =
    ⊎_elim
    (λ l. record { n = v; holds = (stepped-black v e l).rest_is })
    (λ l. record { n = v - 255; holds = (stepped-white v e l h).rest_is })
    (lt-or-le v 256)

-- THE RANGE: a dot's residual is within -128 .. 128 where the four that it received from are
pub residual-held : (g : ℕ) (l c a r : ℤ) → g < 256 → Held l → Held c → Held a → Held r → Held (residual (value g l c a r))
residual-held g l c a r hg hl hc ha hr =
    let pl = rounded 7 hl.n hl.holds.small in
    let pc = rounded 1 hc.n hc.holds.small in
    let pa = rounded 5 ha.n ha.holds.small in
    let pr = rounded 3 hr.n hr.holds.small in
    rw (hl.holds.is, hc.holds.is, ha.holds.is, hr.holds.is)
    (stepped-held (g + pl.n + pc.n + pa.n + pr.n) (value-is g hl.n hc.n ha.n hr.n pl.n pc.n pa.n pr.n
    pl.is.is pc.is.is pa.is.is pr.is.is) (omega (arith, pl.is.small, pc.is.small, pa.is.small, pr.is.small)))
