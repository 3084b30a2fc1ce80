-- The dots of a plane (document 01, image.rs).
use Rattle.std.specs.Prelude.{ℕ, ◌+◌, ◌-◌, ◌*◌, ◌/◌, ◌%◌, ◌^◌, Bool, ◌&&◌, List, ltb, eqb, get_or}
use Rattle.image.specs.Format.{white_bit}
use Rattle.image.specs.declared.PixelFormat.{PixelFormat}

-- bit x of row y, the leftmost dot in its byte's highest bit; "a byte missing from the plane counts as 0", as one does whose index
-- passes 64 bits, since no plane is that long
unfoldable pub bit_at : ℕ → List ℕ → ℕ → ℕ → ℕ
bit_at stride plane x y = get_or plane (y * stride + x / 8) 0 / 2 ^ (7 - x % 8) % 2

-- "`is_white` is no outside the image"
unfoldable pub is_white : PixelFormat → ℕ → ℕ → ℕ → List ℕ → ℕ → ℕ → Bool
is_white format width height stride plane x y =
    ltb x width && ltb y height && eqb (bit_at stride plane x y) (white_bit format)
