-- The layout of a plane without gaps.
use Rattle.std.specs.Prelude.{ℕ, refl}
use Rattle.image.specs.Geometry.{row_bytes, plane_bytes, padding_mask}
use Rattle.image.specs.declared.PlaneLayout.{PlaneLayout}

abbrev pub layout_of : ℕ → ℕ → PlaneLayout
layout_of w h =
    record {
      width = w;
      height = h;
      stride = row_bytes w;
      total_bytes = plane_bytes w h;
      last_byte_pad_mask = padding_mask w;
      stride_is = refl;
      total_is = refl;
      mask_is = refl;
    }
