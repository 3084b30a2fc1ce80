use Prim.Native.Nat.{◌+◌, ◌*◌, ◌≤◌}
use native.Mathlib.Omega.{arith}
use native.Mathlib.Nat.{mul-le-mul_left}
use Rattle.rules.proofs.Differences.{part-is}
use Rattle.dither.proofs.dots.part.Goals as goal
use Rattle.dither.proofs.dots.part.Goals.{Start}

-- `quantize::dither::part` meets its contract: all is arithmetic on unsigned numbers once the product is bounded.
-- Assumes nothing.
small : (c : Start) → (128 * c.args.k + 1) * c.args.b ≤ (128 * c.args.k + 1) * 256
small c = mul-le-mul_left (128 * c.args.k + 1) c.requires.1

pub returns : goal.returns
returns c = record { is = part-is c.args.k c.args.b c.requires.1; small = omega (arith, small c) }
