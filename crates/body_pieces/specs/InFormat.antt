-- A body in the asked format, byte by byte, so that a begun plane has a meaning too.
use Rattle.std.specs.Prelude.{ℕ, ◌+◌, ◌-◌, List, [], ◌∷◌}
pub use Rattle.image.specs.Rows.{padded}
use Rattle.image.specs.declared.PixelFormat.{PixelFormat}
use Rattle.image.specs.declared.PixelFormat.TheVariants.{MonoBlack, MonoWhite}

-- "Native reading copies padding verbatim; `convert_format` to MonoWhite inverts and clears it"
abbrev pub body_byte : PixelFormat → ℕ → ℕ → ℕ → ℕ
body_byte MonoBlack width at b = b
body_byte MonoWhite width at b = padded width at (255 - b)

-- the bytes of a body from byte `at` on
unfoldable pub body_from : PixelFormat → ℕ → ℕ → List ℕ → List ℕ
body_from format width at [] = []
body_from format width at (b ∷ bs) = body_byte format width at b ∷ body_from format width (at + 1) bs
