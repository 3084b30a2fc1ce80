-- Limits that a value meets, and that one more passes.
use mathlib.Core.Path.{◌≡◌, refl}
use Rattle.error.specs.Answer.{gives, refuses}
use Rattle.image.specs.declared.PixelFormat.TheVariants.{MonoBlack}
use Rattle.options.specs.Limits.{absent, at_most, lenient, Decoding, check_limits}
use Rattle.options.specs.Defaults.{defaults, with_max_pixels}

-- 9 by 2 dots in 4 bytes
abbrev small : Decoding
small =
    record {
      max_width = at_most 9;
      max_height = at_most 2;
      max_pixels = absent;
      max_bytes = at_most 4;
      mode = lenient;
      format = MonoBlack;
    }

met : check_limits small 9 2 4 7 ≡ gives tt
unfolding check_limits
met = refl

-- the width is tested first, then the height, then the bytes
wide : check_limits small 10 3 5 7 ≡ refuses 16 7
unfolding check_limits
wide = refl

high : check_limits small 9 3 5 7 ≡ refuses 17 7
unfolding check_limits
high = refl

large : check_limits small 9 2 5 7 ≡ refuses 19 7
unfolding check_limits
large = refl

-- the dots come before the bytes
many : check_limits (with_max_pixels (at_most 17) small) 9 2 5 7 ≡ refuses 18 7
unfolding check_limits
many = refl

-- by default only the bytes are limited
unmet : check_limits defaults 4294967295 4294967295 1073741825 4 ≡ refuses 19 4
unfolding check_limits
unmet = refl
