-- Digits of a number in a base b.
use Prim.Native.Nat.{ℕ, suc, ◌/◌, ◌^◌, ◌<◌}
use native.Mathlib.Nat.{pow-suc, div-lt_iff_lt-mul}
use native.Mathlib.Omega.{arith}

-- a number without its last digit is below one power less
pub div_below : (b k n : ℕ) → 0 < b → n < b ^ suc k → n / b < b ^ k
div_below b k n p h = (div-lt_iff_lt-mul p).1 (rw pow-suc at h)

-- an example: in base 128, the largest of 32 bits without its last digit
thirty_two : 4294967295 / 128 < 128 ^ 4
thirty_two = div_below 128 4 4294967295 (omega arith) (omega arith)
