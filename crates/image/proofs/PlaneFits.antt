-- What the geometry test says of a plane that it accepts.
use Prim.Native.Nat.{ℕ, ◌+◌, ◌-◌, ◌*◌, ◌^◌, ◌≤◌, ◌<◌}
use mathlib.Core.Path.{◌≡◌, refl}
use mathlib.Core.Bool.{Bool, true, false}
use native.Mathlib.Nat.{mul_comm, mul-le-mul_left}
use native.Mathlib.Omega.{arith}
use borrow.Author.Tests.{ltb-true, ltb-false, leb-true, leb-false}
use lib.Dec.{ltb, leb}
use Rattle.error.specs.Answer.{Answer, gives, refuses}
use Rattle.laws.proofs.Tests.{zero_one}
use Rattle.image.specs.Geometry.{row_bytes, needed_bytes, check_geometry}
use Rattle.image.proofs.GeometryTests.{no-width, no-height, narrow, large, short}

pub record PlaneFits (w h s n : ℕ) : Type 0 where
  pub wide : 0 < w
  pub high : 0 < h
  pub row : row_bytes w ≤ s
  pub room : needed_bytes w h s ≤ n

refused : {X : Type 0} {code offset : ℕ} {a : Answer (Unit {0})} → a ≡ refuses code offset → a ≡ gives tt → X
refused p q = zero_one (cc)

module _ (w h s n : ℕ) (e : check_geometry w h s n ≡ gives tt) where
  by_length : 0 < w → 0 < h → row_bytes w ≤ s → needed_bytes w h s < 2 ^ 64 → (t : Bool) → ltb n (needed_bytes w h s) ≡ t → PlaneFits w h s n
  by_length p q r l true d = refused (short w h s n p q r l (ltb-true _ _ d)) e
  by_length p q r l false d = record { wide = p; high = q; row = r; room = ltb-false _ _ d }

  by_size : 0 < w → 0 < h → row_bytes w ≤ s → (t : Bool) → leb (2 ^ 64) (needed_bytes w h s) ≡ t → PlaneFits w h s n
  by_size p q r true d = refused (large w h s n p q r (leb-true _ _ d)) e
  by_size p q r false d = by_length p q r (leb-false _ _ d) (ltb n (needed_bytes w h s)) refl

  by_row : 0 < w → 0 < h → (t : Bool) → ltb s (row_bytes w) ≡ t → PlaneFits w h s n
  by_row p q true d = refused (narrow w h s n p q (ltb-true _ _ d)) e
  by_row p q false d = by_size p q (ltb-false _ _ d) (leb (2 ^ 64) (needed_bytes w h s)) refl

  by_height : 0 < w → (t : Bool) → ltb 0 h ≡ t → PlaneFits w h s n
  by_height p true d = by_row p (ltb-true _ _ d) (ltb s (row_bytes w)) refl
  by_height p false d = let z = ltb-false 0 h d in refused (no-height w h s n p (omega arith)) e

  by_width : (t : Bool) → ltb 0 w ≡ t → PlaneFits w h s n
  by_width true d = by_height (ltb-true _ _ d) (ltb 0 h) refl
  by_width false d = let z = ltb-false 0 w d in refused (no-width w h s n (omega arith)) e

  pub fits : PlaneFits w h s n
  fits = by_width (ltb 0 w) refl

-- every row of it is wholly there
pub row-there : (w h s n : ℕ) → PlaneFits w h s n → (y : ℕ) → y < h → y * s + row_bytes w ≤ n
row-there w h s n f y k =
    let p : s * y ≤ s * (h - 1) = mul-le-mul_left s (omega arith) in
    let q = mul_comm s y in
    omega (arith, f.room)
