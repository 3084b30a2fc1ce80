-- The dots of a plane that is read in either format.
use Prim.Native.Nat.{ℕ, suc, ◌-◌, ◌*◌, ◌^◌, ◌≤◌, ◌<◌}
use mathlib.Core.Path.{◌≡◌, refl, sym, ap, ◌∙◌, subst}
use mathlib.Core.List.{List}
use native.Mathlib.Nat.{mul-suc}
use native.Mathlib.Omega.{arith}
use lib.ListN.{length}
use Rattle.error.specs.Answer.{gives}
use Rattle.laws.proofs.Octets.{Octets}
use Rattle.laws.proofs.Products.{product-below}
use Rattle.image.specs.Dots.{is_white}
use Rattle.image.specs.Geometry.{row_bytes, plane_bytes, needed_bytes, check_geometry}
use Rattle.image.specs.Rows.{convert_format}
use Rattle.image.specs.declared.PixelFormat.{PixelFormat}
use Rattle.image.specs.declared.PixelFormat.TheVariants.{MonoBlack, MonoWhite}
use Rattle.image.proofs.GeometryTests.{accepted}
use Rattle.image.proofs.ConvertDots.{converted-dots}

module _ (w h : ℕ) (wide : 0 < w) (high : 0 < h) (wb : w < 4294967296) (hb : h < 4294967296) where
  -- a plane without gaps
  pub needed-plane : needed_bytes w h (row_bytes w) ≡ plane_bytes w h
  needed-plane =
      let e : suc (h - 1) ≡ h = omega arith in
      sym (mul-suc (row_bytes w) (h - 1)) ∙ ap (λ (k : ℕ). row_bytes w * k) e

  pub plane-fits : plane_bytes w h < 2 ^ 64
  plane-fits = product-below 32 32 (omega arith) (omega arith)

  pub plane-passes : check_geometry w h (row_bytes w) (plane_bytes w h) ≡ gives tt
  plane-passes =
      accepted w h (row_bytes w) (plane_bytes w h) wide high (omega arith)
      (subst (λ (n : ℕ). n < 2 ^ 64) (sym needed-plane) plane-fits)
      (subst (λ (n : ℕ). n ≤ plane_bytes w h) (sym needed-plane) (omega arith))

  pub read-dots : (f : PixelFormat) (plane : List ℕ) → length plane ≡ plane_bytes w h → Octets plane → (x y : ℕ)
      → is_white f w h (row_bytes w) (convert_format MonoBlack f w h (row_bytes w) plane) x y ≡ is_white MonoBlack w h (row_bytes w) plane x y
  unfolding convert_format
  read-dots MonoBlack plane n o x y = refl
  read-dots MonoWhite plane n o x y = converted-dots MonoBlack w h (row_bytes w) plane (rw n plane-passes) o x y
