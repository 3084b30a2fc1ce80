-- The dots and the padding of wire bits.
use Prim.Native.Nat.{ℕ, zero, suc, ◌+◌, ◌-◌, ◌*◌, ◌/◌, ◌%◌, ◌^◌, ◌≤◌, ◌<◌}
use mathlib.Core.Path.{◌≡◌, refl, ap, sym, ◌∙◌}
use mathlib.Core.Bool.{Bool, true, false}
use mathlib.Core.List.{List}
use native.Mathlib.Nat.{mul-le-mul_right}
use native.Mathlib.Omega.{arith}
use borrow.Author.Tests.{ltb-true, ltb-false}
use lib.Dec.{ltb, eqb}
use lib.ListN.{length, get_or, drop, get_or-append}
use lib.Seq.{get_or-append-add, get_or-take, get_or-drop}
use Rattle.error.specs.Answer.{gives}
use Rattle.laws.proofs.Octets.{Octets}
use Rattle.image.specs.Dots.{bit_at, is_white}
use Rattle.image.specs.Format.{white_bit}
use Rattle.image.specs.Geometry.{row_bytes, check_geometry}
use Rattle.image.specs.Rows.{clear_low, source_row, to_native, wire_row, wire_bits}
use Rattle.image.specs.declared.PixelFormat.{PixelFormat}
use Rattle.image.specs.declared.PixelFormat.TheVariants.{MonoBlack, MonoWhite}
use Rattle.image.proofs.Bits.{invert-bit}
use Rattle.image.proofs.PaddingCleared.{padding_at, cleared_at, bit_kept, bit-cleared}
use Rattle.image.proofs.PlaneFits.{fits, row-there}
use Rattle.image.proofs.InvertedBytes.{invert-at}
use Rattle.image.proofs.DotsSame.{same-dot, other-bit, bit-lt}
use Rattle.image.proofs.WireRows.{source-there, source-length, native-length, wire-length}

-- a byte of row y
module _ (f : PixelFormat) (w s : ℕ) (plane : List ℕ) (j : ℕ) (k : j < row_bytes w) where
  by_row : (h y : ℕ) (t : Bool) → ltb y h ≡ t → y < suc h
      → ((z : ℕ) → z < h → get_or (wire_bits f w h s plane) (z * row_bytes w + j) 0 ≡ get_or (wire_row f w s plane z) j 0)
      → get_or (wire_bits f w (suc h) s plane) (y * row_bytes w + j) 0 ≡ get_or (wire_row f w s plane y) j 0
  unfolding wire_bits
  by_row h y true e l ih =
      let p : suc y * row_bytes w ≤ h * row_bytes w = mul-le-mul_right (row_bytes w) (ltb-true y h e) in
      get_or-append (wire_bits f w h s plane) (wire_row f w s plane h) 0 (y * row_bytes w + j) (omega (arith, wire-length f w s plane h))
      ∙ ih y (ltb-true y h e)
  by_row h y false e l ih =
      let n : y ≡ h = omega (arith, ltb-false y h e) in
      ap (λ (z : ℕ). get_or (wire_bits f w (suc h) s plane) (z * row_bytes w + j) 0) n
      ∙ ap (λ (m : ℕ). get_or (wire_bits f w (suc h) s plane) (m + j) 0) (sym (wire-length f w s plane h))
      ∙ get_or-append-add (wire_bits f w h s plane) (wire_row f w s plane h) j 0
      ∙ ap (λ (z : ℕ). get_or (wire_row f w s plane z) j 0) (sym n)

  pub wire-at : (h y : ℕ) → y < h → get_or (wire_bits f w h s plane) (y * row_bytes w + j) 0 ≡ get_or (wire_row f w s plane y) j 0
  wire-at zero y l = let z : ⊥ = omega arith in absurd z
  wire-at (suc h) y l = by_row h y (ltb y h) refl l (wire-at h)

  -- it is that of the plane in the native format, cleared
  pub wire-byte : (h y : ℕ) → y < h
      → get_or (wire_bits f w h s plane) (y * row_bytes w + j) 0 ≡ clear_low (padding_at w j)
      (get_or (to_native f (source_row (row_bytes w) s plane y)) j 0)
  unfolding wire_row
  wire-byte h y l =
      wire-at h y l
      ∙ cleared_at w (to_native f (source_row (row_bytes w) s plane y))
      (native-length f (source_row (row_bytes w) s plane y) ∙ source-length (row_bytes w) s plane y) j k

-- the padding bits of each row are 0, whatever the plane
pub wire-padding : (f : PixelFormat) (w h s : ℕ) (plane : List ℕ) (x y : ℕ) → w ≤ x → x < row_bytes w * 8 → y < h
    → bit_at (row_bytes w) (wire_bits f w h s plane) x y ≡ 0
unfolding bit_at
wire-padding f w h s plane x y p q l =
    ap (λ (b : ℕ). b / 2 ^ (7 - x % 8) % 2) (wire-byte f w s plane (x / 8) (omega arith) h y l)
    ∙ bit-cleared w x (get_or (to_native f (source_row (row_bytes w) s plane y)) (x / 8) 0) p

-- a bit as it stands in the native format
abbrev native_bit : PixelFormat → ℕ → ℕ
native_bit MonoBlack b = b
native_bit MonoWhite b = 1 - b

native-white : (f : PixelFormat) (b : ℕ) → b < 2 → eqb (native_bit f b) 1 ≡ eqb b (white_bit f)
native-white MonoBlack b h = refl
native-white MonoWhite b h = other-bit MonoWhite b h

format-white : (f : PixelFormat) (b : ℕ) → b < 2 → eqb (native_bit f b) (white_bit f) ≡ eqb b 1
format-white MonoBlack b h = refl
format-white MonoWhite b h = other-bit MonoBlack b h

module _ (w s : ℕ) (plane : List ℕ) (bytes : Octets plane) (x y : ℕ) (k : x < w) (there : y * s + row_bytes w ≤ length plane) where
  -- the byte of a row that is there
  source_byte : get_or (source_row (row_bytes w) s plane y) (x / 8) 0 ≡ get_or plane (y * s + x / 8) 0
  source_byte =
      ap (λ (l : List ℕ). get_or l (x / 8) 0) (source-there (row_bytes w) s plane y there)
      ∙ get_or-take (row_bytes w) (drop (y * s) plane) (x / 8) 0 (omega arith)
      ∙ get_or-drop (y * s) plane (x / 8) 0

  native-bit : (f : PixelFormat)
      → get_or (to_native f (source_row (row_bytes w) s plane y)) (x / 8) 0 / 2 ^ (7 - x % 8) % 2 ≡ native_bit f (bit_at s plane x y)
  unfolding bit_at
  native-bit MonoBlack = ap (λ (b : ℕ). b / 2 ^ (7 - x % 8) % 2) source_byte
  native-bit MonoWhite =
      ap (λ (b : ℕ). b / 2 ^ (7 - x % 8) % 2)
      (invert-at (source_row (row_bytes w) s plane y) (x / 8) (omega (arith, source-length (row_bytes w) s plane y))
      ∙ ap (λ (b : ℕ). 255 - b) source_byte)
      ∙ invert-bit (7 - x % 8) (get_or plane (y * s + x / 8) 0) (omega arith) (bytes (y * s + x / 8))

-- Planes that pass the geometry test.
module _ (f : PixelFormat) (w h s : ℕ) (plane : List ℕ) (passed : check_geometry w h s (length plane) ≡ gives tt) (bytes : Octets plane)
    (x y : ℕ) where
  wire-bit : x < w → y < h → bit_at (row_bytes w) (wire_bits f w h s plane) x y ≡ native_bit f (bit_at s plane x y)
  unfolding bit_at
  wire-bit k l =
      ap (λ (b : ℕ). b / 2 ^ (7 - x % 8) % 2) (wire-byte f w s plane (x / 8) (omega arith) h y l)
      ∙ bit_kept w x (get_or (to_native f (source_row (row_bytes w) s plane y)) (x / 8) 0) k
      ∙ native-bit w s plane bytes x y k (row-there w h s (length plane) (fits w h s (length plane) passed) y l) f

  -- the dots of the wire bits are those of the plane
  pub wire-dots : is_white MonoBlack w h (row_bytes w) (wire_bits f w h s plane) x y ≡ is_white f w h s plane x y
  wire-dots =
      same-dot MonoBlack f w h (row_bytes w) s (wire_bits f w h s plane) plane x y
      (λ k l. ap (λ (b : ℕ). eqb b 1) (wire-bit k l) ∙ native-white f (bit_at s plane x y) (bit-lt s plane x y))

  -- the wire bits of a native plane, taken to be of a format, show it in that format
  pub shown-dots : is_white f w h (row_bytes w) (wire_bits f w h s plane) x y ≡ is_white MonoBlack w h s plane x y
  shown-dots =
      same-dot f MonoBlack w h (row_bytes w) s (wire_bits f w h s plane) plane x y
      (λ k l. ap (λ (b : ℕ). eqb b (white_bit f)) (wire-bit k l) ∙ format-white f (bit_at s plane x y) (bit-lt s plane x y))
