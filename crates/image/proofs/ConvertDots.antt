-- Planes that pass the geometry test, in the other format and back.
use Prim.Native.Nat.{ℕ, ◌+◌, ◌-◌, ◌*◌, ◌/◌, ◌%◌, ◌^◌, ◌<◌}
use mathlib.Core.Path.{◌≡◌, refl, ap, ◌∙◌}
use mathlib.Core.List.{List}
use native.Mathlib.Omega.{arith}
use lib.Dec.{eqb}
use lib.ListN.{length, get_or}
use Rattle.error.specs.Answer.{gives}
use Rattle.laws.proofs.Octets.{Octets}
use Rattle.image.specs.Dots.{bit_at, is_white}
use Rattle.image.specs.Format.{white_bit, other_format}
use Rattle.image.specs.Geometry.{row_bytes, check_geometry}
use Rattle.image.specs.Rows.{clear_low, convert_rows, convert_format}
use Rattle.image.specs.declared.PixelFormat.{PixelFormat}
use Rattle.image.specs.declared.PixelFormat.TheVariants.{MonoBlack, MonoWhite}
use Rattle.image.proofs.Bits.{invert-bit, invert-twice}
use Rattle.image.proofs.PaddingCleared.{padding_at, bit_kept}
use Rattle.image.proofs.ConvertedBytes.{Outside, AllThere, rows-length, rows-outside, rows_inside}
use Rattle.image.proofs.PlaneFits.{PlaneFits, fits, row-there}
use Rattle.image.proofs.DotsSame.{same-dot, other-bit, bit-lt}

-- every byte of a plane that was converted: those of the rows are `new`, the others as they were
pub record Converts (w h s : ℕ) (new : ℕ → ℕ → ℕ) (plane plane' : List ℕ) : Type 0 where
  pub same : length plane' ≡ length plane
  pub row : (y j : ℕ) → y < h → j < row_bytes w → get_or plane' (y * s + j) 0 ≡ new j (get_or plane (y * s + j) 0)
  pub gap : (k : ℕ) → ((y : ℕ) → y < h → Outside w s k y) → get_or plane' k 0 ≡ get_or plane k 0

-- byte j of a row inverted, and with its padding cleared
abbrev pub inverted : ℕ → ℕ → ℕ → ℕ
inverted w j b = clear_low (padding_at w j) (255 - b)

abbrev pub cleared : ℕ → ℕ → ℕ → ℕ
cleared w j b = clear_low (padding_at w j) b

other : (f : PixelFormat) (w h s : ℕ) (plane : List ℕ) → convert_format f (other_format f) w h s plane ≡ convert_rows w s h 0 plane
unfolding convert_format
other MonoBlack w h s plane = refl
other MonoWhite w h s plane = refl

back : (f : PixelFormat) (w h s : ℕ) (plane : List ℕ) → convert_format (other_format f) f w h s plane ≡ convert_rows w s h 0 plane
unfolding convert_format
back MonoBlack w h s plane = refl
back MonoWhite w h s plane = refl

rows-converted : (w h s : ℕ) (plane : List ℕ) → PlaneFits w h s (length plane)
    → Converts w h s (inverted w) plane (convert_rows w s h 0 plane)
rows-converted w h s plane f =
    let all : AllThere w s (0 + h) plane = λ z l. row-there w h s (length plane) f z (omega arith) in
    record {
      same = rows-length w s h 0 plane all;
      row = λ y j l k. rows_inside w s f.row j k h 0 plane all y (omega arith) (omega arith);
      gap = λ k out. rows-outside w s h 0 plane all k (λ z a b. out z (omega arith));
    }

module _ (f : PixelFormat) (w h s : ℕ) (plane : List ℕ) (passed : check_geometry w h s (length plane) ≡ gives tt) where
  pub converted : Converts w h s (inverted w) plane (convert_format f (other_format f) w h s plane)
  converted = rw other (rows-converted w h s plane (fits w h s (length plane) passed))

  -- inverting twice gives the bytes with padding clear
  pub converted-twice : Octets plane
      → Converts w h s (cleared w) plane (convert_format (other_format f) f w h s (convert_format f (other_format f) w h s plane))
  converted-twice bytes =
      let g = fits w h s (length plane) passed in
      let p = rows-converted w h s plane g in
      let e = p.same in
      let g' : PlaneFits w h s (length (convert_rows w s h 0 plane)) =
      record { wide = g.wide; high = g.high; row = g.row; room = omega (arith, g.room) } in
      let q = rows-converted w h s (convert_rows w s h 0 plane) g' in
      rw (other f, back f)
      (record {
        same = q.same ∙ e;
        row = λ y j l k.
            q.row y j l k
            ∙ ap (inverted w j) (p.row y j l k)
            ∙ invert-twice (padding_at w j) (get_or plane (y * s + j) 0) (omega arith) (bytes (y * s + j));
        gap = λ k out. q.gap k out ∙ p.gap k out;
      })

-- the dots are the same in the other format
module _ (f : PixelFormat) (w h s : ℕ) (plane : List ℕ) (passed : check_geometry w h s (length plane) ≡ gives tt) (bytes : Octets plane)
    (x y : ℕ) where
  converted-bit : x < w → y < h → bit_at s (convert_format f (other_format f) w h s plane) x y ≡ 1 - bit_at s plane x y
  unfolding bit_at
  converted-bit k l =
      let b = get_or plane (y * s + x / 8) 0 in
      ap (λ (b : ℕ). b / 2 ^ (7 - x % 8) % 2) ((converted f w h s plane passed).row y (x / 8) l (omega arith))
      ∙ bit_kept w x (255 - b) k
      ∙ invert-bit (7 - x % 8) b (omega arith) (bytes (y * s + x / 8))

  pub converted-dots : is_white (other_format f) w h s (convert_format f (other_format f) w h s plane) x y ≡ is_white f w h s plane x y
  converted-dots =
      same-dot (other_format f) f w h s s (convert_format f (other_format f) w h s plane) plane x y
      (λ k l. ap (λ (b : ℕ). eqb b (white_bit (other_format f))) (converted-bit k l) ∙ other-bit f (bit_at s plane x y) (bit-lt s plane x y))
