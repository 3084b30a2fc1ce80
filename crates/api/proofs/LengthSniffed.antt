-- Sniffing a body's length, by how it compares with sixteen planes.
use Prim.Native.Nat.{ℕ, ◌*◌, ◌/◌, ◌%◌, ◌<◌}
use mathlib.Core.Path.{◌≡◌, refl}
use mathlib.Core.Bool.{Bool, true, false, ◌&&◌}
use native.Mathlib.Nat.{div-add-mod', lt_of_mul-lt-mul_right}
use native.Mathlib.Omega.{arith}
use borrow.Author.Tests.{le-ltb, lt-leb, eqb-true}
use lib.Dec.{leb, eqb}
use Rattle.error.specs.Choice.{if}
use Rattle.api.specs.Sniff.{sniff_length}
use Rattle.api.specs.declared.Sniffed.TheVariants.{Exact, Neither}

module _ (plane size : ℕ) (some : 0 < plane) where
  -- more than sixteen planes, with a rest or without
  pub too_long : 16 * plane < size → sniff_length plane size ≡ Neither
  too_long l = rw (le-ltb size plane (omega arith)) (go (eqb (size % plane) 0) refl)
    where
      go : (t : Bool) → eqb (size % plane) 0 ≡ t → if (t && leb (size / plane) 16) Exact Neither ≡ Neither
      go false e = refl
      go true e =
          let d = div-add-mod' size plane in
          let z = eqb-true (size % plane) 0 e in
          let k : 16 * plane < size / plane * plane = omega arith in
          rw (lt-leb (size / plane) 16 (lt_of_mul-lt-mul_right plane k))
