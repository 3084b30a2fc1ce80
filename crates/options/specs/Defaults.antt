-- The defaults, and what each setting changes (document 01, options.rs and limits.rs): "each with_ setting takes the limits and hands
-- back changed limits".
use Rattle.std.specs.Prelude.{ℕ, ◌-◌, ◌^◌, Bool}
use Rattle.image.specs.declared.PixelFormat.{PixelFormat}
use Rattle.image.specs.declared.PixelFormat.TheVariants.{MonoBlack}
use Rattle.options.specs.Limits.{Bound, absent, at_most, Mode, lenient, strictly, Decoding}
use Rattle.options.specs.declared.limits.WbmpLimits.{WbmpLimits}

-- "Default: bytes at most 1,073,741,824, others absent"; reading is lenient, and "Native is MonoBlack"
abbrev pub defaults : Decoding
defaults =
    record
    { max_width = absent; max_height = absent; max_pixels = absent; max_bytes = at_most 1073741824; mode = lenient; format = MonoBlack }

abbrev pub with_max_width : Bound → Decoding → Decoding
with_max_width b d =
    record
    { max_width = b; max_height = d.max_height; max_pixels = d.max_pixels; max_bytes = d.max_bytes; mode = d.mode; format = d.format }

abbrev pub with_max_height : Bound → Decoding → Decoding
with_max_height b d =
    record
    { max_width = d.max_width; max_height = b; max_pixels = d.max_pixels; max_bytes = d.max_bytes; mode = d.mode; format = d.format }

abbrev pub with_max_pixels : Bound → Decoding → Decoding
with_max_pixels b d =
    record
    { max_width = d.max_width; max_height = d.max_height; max_pixels = b; max_bytes = d.max_bytes; mode = d.mode; format = d.format }

abbrev pub with_max_bytes : Bound → Decoding → Decoding
with_max_bytes b d =
    record
    { max_width = d.max_width; max_height = d.max_height; max_pixels = d.max_pixels; max_bytes = b; mode = d.mode; format = d.format }

abbrev pub with_mode : Mode → Decoding → Decoding
with_mode m d =
    record
    { max_width = d.max_width; max_height = d.max_height; max_pixels = d.max_pixels; max_bytes = d.max_bytes; mode = m; format = d.format }

abbrev pub with_strict : Bool → Decoding → Decoding
with_strict s = with_mode (strictly s)

abbrev pub with_format : PixelFormat → Decoding → Decoding
with_format f d =
    record
    { max_width = d.max_width; max_height = d.max_height; max_pixels = d.max_pixels; max_bytes = d.max_bytes; mode = d.mode; format = f }

-- every limit lifted
abbrev pub unlimited : Decoding → Decoding
unlimited d =
    record { max_width = absent; max_height = absent; max_pixels = absent; max_bytes = absent; mode = d.mode; format = d.format }

-- "`WbmpLimits` default: 16,384, 16,384, bytes 8,388,608"
abbrev pub limits_default : WbmpLimits
limits_default = record { max_width = 16384; max_height = 16384; max_pixel_bytes = 8388608 }

-- limits that admit everything: the largest numbers of their types
abbrev pub limits_unbounded : WbmpLimits
limits_unbounded = record { max_width = 2 ^ 32 - 1; max_height = 2 ^ 32 - 1; max_pixel_bytes = 2 ^ 64 - 1 }

-- "pixels absent": the limits as settings of reading, lenient and native
abbrev pub from_limits : WbmpLimits → Decoding
from_limits l =
    record {
      max_width = at_most l.max_width;
      max_height = at_most l.max_height;
      max_pixels = absent;
      max_bytes = at_most l.max_pixel_bytes;
      mode = lenient;
      format = MonoBlack;
    }

-- the most frames that are written or made: "21, 0: 0 frames or over 16", "none past 16 frames"
abbrev pub made_frames : ℕ
made_frames = 16
