-- A part of a list, as the code lends it.
use Prim.Native.Nat.{ℕ, ◌+◌, ◌-◌}
use mathlib.Core.Path.{◌≡◌}
use mathlib.Core.List.{List}
use native.Mathlib.Omega.{arith}
use lib.ListN.{take, drop}
use lib.Seq.{slice}
use Rattle.laws.proofs.Lists.{take-slice}

-- the part from a to a + i
pub lent_part : (a i : ℕ) (s : List ℕ) → take (a + i - a) (drop a s) ≡ slice a (a + i) s
lent_part a i s = let e : a + i - a ≡ i = omega arith in rw e (take-slice a i s)
