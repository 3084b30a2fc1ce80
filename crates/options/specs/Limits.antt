-- The settings of reading and their limits (document 01, options.rs and limits.rs).
use Rattle.std.specs.Prelude.{ℕ, ◌*◌, Bool, true, false, leb, Option, Some, None}
use Rattle.error.specs.Choice.{if}
use Rattle.error.specs.Answer.{Answer, gives, refuses}
use Rattle.header.specs.Settings.{Settings, inner, ext_inner}
use Rattle.image.specs.declared.PixelFormat.{PixelFormat}
use Rattle.options.specs.declared.DecodeMode.{DecodeMode}
use Rattle.options.specs.declared.DecodeMode.TheVariants.{Lenient, Strict}
use Rattle.options.specs.declared.DecodeOptions.{DecodeOptions}

-- A limit is absent, or the largest number that it admits.
pub data Bound : Type 0 where
  absent : Bound
  at_most : ℕ → Bound

abbrev pub admits : Bound → ℕ → Bool
admits absent n = true
admits (at_most most) n = leb n most

-- how the header of an image is read
pub data Mode : Type 0 where
  lenient : Mode
  strict : Mode

-- the Rust has these two, and says strict or not
abbrev pub strictly : Bool → Mode
strictly true = strict
strictly false = lenient

-- "Strict image reading uses `parse_header_inner`"; lenient reading honours fields
abbrev pub image_settings : Mode → Settings
image_settings lenient = ext_inner false
image_settings strict = inner true

pub record Decoding : Type 0 where
  pub max_width : Bound
  pub max_height : Bound
  pub max_pixels : Bound
  pub max_bytes : Bound
  pub mode : Mode
  pub format : PixelFormat

-- the settings, tested before all reading: none is refused
unfoldable pub settled : Decoding → Answer Decoding
settled d = gives d

-- the most frames that are read with them: "at most 15" behind the first
unfoldable pub ceiling_of : Decoding → ℕ
ceiling_of d = 16

-- "Tested in order: width, height, pixels, plane bytes"; "16, 17, 18, 19, body's start"
unfoldable pub check_limits : Decoding → ℕ → ℕ → ℕ → ℕ → Answer (Unit {0})
check_limits d width height bytes start =
    if (admits d.max_width width)
    (if (admits d.max_height height)
    (if (admits d.max_pixels (width * height))
    (if (admits d.max_bytes bytes) (gives tt) (refuses 19 start))
    (refuses 18 start))
    (refuses 17 start))
    (refuses 16 start)

-- what the code's values mean
abbrev pub bound_of : Option ℕ → Bound
bound_of None = absent
bound_of (Some most) = at_most most

abbrev pub mode_of : DecodeMode → Mode
mode_of Lenient = lenient
mode_of Strict = strict

abbrev pub decoding : DecodeOptions → Decoding
decoding o =
    record {
      max_width = bound_of o.max_width;
      max_height = bound_of o.max_height;
      max_pixels = bound_of o.max_pixels;
      max_bytes = bound_of o.max_bytes;
      mode = mode_of o.mode;
      format = o.format;
    }
