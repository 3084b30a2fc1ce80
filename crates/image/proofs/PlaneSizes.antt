-- Sizes of planes whose rows stand without gaps, and their layouts.
use Prim.Native.Nat.{ℕ, ◌+◌, ◌*◌, ◌%◌, ◌<◌}
use mathlib.Core.Path.{◌≡◌, sym, ap, ◌∙◌, subst}
use native.Mathlib.Nat.{mul_comm, mul_assoc, mul-pos, mul-add-mod_self_left}
use native.Mathlib.Omega.{arith}
use Rattle.laws.proofs.Products.{up_to}
use Rattle.image.specs.Geometry.{row_bytes, plane_bytes, padding_mask}
use Rattle.image.specs.Layout.{layout_of}
use Rattle.image.specs.declared.PlaneLayout.{PlaneLayout}

module _ (w h : ℕ) where
  pub plane-some : 0 < w → 0 < h → 0 < plane_bytes w h
  plane-some p q = let r : 0 < row_bytes w = omega arith in mul-pos r q

  -- byte j of row y
  pub byte_inside : (y j : ℕ) → y < h → j < row_bytes w → y * row_bytes w + j < plane_bytes w h
  byte_inside y j l k = omega (arith, up_to (row_bytes w) y h l, mul_comm (row_bytes w) h)

  -- behind whole planes a byte has the same place in its row
  pub plane-mod : (k at : ℕ) → (k * plane_bytes w h + at) % row_bytes w ≡ at % row_bytes w
  plane-mod k at =
      let r = row_bytes w in
      let e : k * (r * h) ≡ r * (k * h) = sym (mul_assoc k r h) ∙ ap (λ (i : ℕ). i * h) (mul_comm k r) ∙ mul_assoc r k h in
      ap (λ (i : ℕ). (i + at) % r) e ∙ mul-add-mod_self_left r (k * h) at

-- a layout that was made for a size
module _ {w h : ℕ} {l : PlaneLayout} (made : l ≡ layout_of w h) where
  pub stride-is : l.stride ≡ row_bytes w
  stride-is = ap (λ (k : PlaneLayout). k.stride) made

  pub total-is : l.total_bytes ≡ plane_bytes w h
  total-is = ap (λ (k : PlaneLayout). k.total_bytes) made

  pub mask_is : l.last_byte_pad_mask ≡ padding_mask w
  mask_is = ap (λ (k : PlaneLayout). k.last_byte_pad_mask) made

  pub total-some : 0 < w → 0 < h → 0 < l.total_bytes
  total-some p q = subst (λ (n : ℕ). 0 < n) (sym total-is) (plane-some w h p q)
