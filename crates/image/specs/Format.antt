-- Pixel formats (document 01, image.rs): "Native is MonoBlack, 1 = white."
use Rattle.std.specs.Prelude.{ℕ}
use Rattle.image.specs.declared.PixelFormat.{PixelFormat}
use Rattle.image.specs.declared.PixelFormat.TheVariants.{MonoBlack, MonoWhite}

-- the bit that means white
abbrev pub white_bit : PixelFormat → ℕ
white_bit MonoBlack = 1
white_bit MonoWhite = 0

abbrev pub other_format : PixelFormat → PixelFormat
other_format MonoBlack = MonoWhite
other_format MonoWhite = MonoBlack
