-- Numbers that hold residuals: a residual r is held as the number r + 128.
use Rattle.std.specs.Prelude.{ℕ, ◌≤◌, ◌≡◌, ℤ}
use Rattle.std.proofs.Math.IntN.{sub_ℕ}
use Rattle.rules.specs.Bits.{bit}
use Rattle.rules.specs.Diffusion.{white, residual}

-- r holds z, which is within -128 .. 128
pub record Biased (z : ℤ) (r : ℕ) : Type 0 where
  pub is : z ≡ sub_ℕ r 128
  pub small : r ≤ 256

-- the dot and the residual of the value v
pub record DotMade (v : ℤ) (dot rest : ℕ) : Type 0 where
  pub dot_is : dot ≡ bit (white v)
  pub rest_is : Biased (residual v) rest
