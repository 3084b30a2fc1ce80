-- A dot, outside the image and inside it.
use Prim.Native.Nat.{ℕ, zero, suc, ◌+◌, ◌-◌, ◌*◌, ◌/◌, ◌%◌, ◌^◌, ◌≤◌, ◌<◌}
use mathlib.Core.Path.{◌≡◌, refl, sym, ◌∙◌}
use mathlib.Core.Bool.{Bool, true, false}
use mathlib.Core.List.{List}
use native.Mathlib.Nat.{zero-div}
use native.Mathlib.Omega.{arith}
use borrow.Author.Tests.{ltb-true, ltb-false, lt-ltb, le-ltb}
use lib.Dec.{ltb, eqb}
use lib.ListN.{length, get_or, get_or-eq_default}
use Rattle.image.specs.Dots.{bit_at, is_white}
use Rattle.image.specs.Format.{white_bit, other_format}
use Rattle.image.specs.declared.PixelFormat.{PixelFormat}
use Rattle.image.specs.declared.PixelFormat.TheVariants.{MonoBlack, MonoWhite}

module _ (f : PixelFormat) (w h s : ℕ) (plane : List ℕ) (x y : ℕ) where
  pub right_of : w ≤ x → is_white f w h s plane x y ≡ false
  unfolding is_white
  right_of p = rw (le-ltb x w p)

  pub below : x < w → h ≤ y → is_white f w h s plane x y ≡ false
  unfolding is_white
  below p q = rw (lt-ltb x w p, le-ltb y h q)

  pub inside : x < w → y < h → is_white f w h s plane x y ≡ eqb (bit_at s plane x y) (white_bit f)
  unfolding is_white
  inside p q = rw (lt-ltb x w p, lt-ltb y h q)

  pub seen : x < w → y < h → (b v : ℕ) → b ≡ bit_at s plane x y → v ≡ white_bit f → eqb b v ≡ is_white f w h s plane x y
  seen p q b v d e = rw (d, e) (sym (inside p q))

-- planes show the same dot where their bits mean the same
module _ (f g : PixelFormat) (w h s s' : ℕ) (plane plane' : List ℕ) (x y : ℕ) where
  by_place : (x < w → y < h → eqb (bit_at s plane x y) (white_bit f) ≡ eqb (bit_at s' plane' x y) (white_bit g))
      → (t u : Bool) → ltb x w ≡ t → ltb y h ≡ u → is_white f w h s plane x y ≡ is_white g w h s' plane' x y
  by_place e true true p q =
      let k = ltb-true x w p in
      let l = ltb-true y h q in
      inside f w h s plane x y k l ∙ e k l ∙ sym (inside g w h s' plane' x y k l)
  by_place e true false p q =
      let k = ltb-true x w p in
      let l = ltb-false y h q in
      below f w h s plane x y k l ∙ sym (below g w h s' plane' x y k l)
  by_place e false u p q = let k = ltb-false x w p in right_of f w h s plane x y k ∙ sym (right_of g w h s' plane' x y k)

  pub same-dot : (x < w → y < h → eqb (bit_at s plane x y) (white_bit f) ≡ eqb (bit_at s' plane' x y) (white_bit g))
      → is_white f w h s plane x y ≡ is_white g w h s' plane' x y
  same-dot e = by_place e (ltb x w) (ltb y h) refl refl

-- the other bit in the other format
pub other-bit : (f : PixelFormat) (b : ℕ) → b < 2 → eqb (1 - b) (white_bit (other_format f)) ≡ eqb b (white_bit f)
other-bit MonoBlack zero h = refl
other-bit MonoWhite zero h = refl
other-bit MonoBlack (suc zero) h = refl
other-bit MonoWhite (suc zero) h = refl
other-bit f (suc (suc b)) h = let z : ⊥ = omega arith in absurd z

pub bit-lt : (s : ℕ) (plane : List ℕ) (x y : ℕ) → bit_at s plane x y < 2
unfolding bit_at
bit-lt s plane x y = omega arith

pub missing-bit : (s : ℕ) (plane : List ℕ) (x y : ℕ) → length plane ≤ y * s + x / 8 → bit_at s plane x y ≡ 0
unfolding bit_at
missing-bit s plane x y h = rw (get_or-eq_default plane 0 h, zero-div)

-- what the code finds in a byte of the plane
pub read-bit : (s : ℕ) (plane : List ℕ) (x y at b : ℕ) → at ≡ y * s → b ≡ get_or plane (at + x / 8) 0 / 2 ^ (7 - x % 8) % 2
    → b ≡ bit_at s plane x y
unfolding bit_at
read-bit s plane x y at b p q = rw p at q
