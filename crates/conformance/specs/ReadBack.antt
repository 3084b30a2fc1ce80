-- What it is for a file to be read back.
use Rattle.std.specs.Prelude.{ℕ, ◌+◌, ◌*◌, ◌≤◌, ◌<◌, min, ◌≡◌, Bool, true, ◌&&◌, List, ltb, length, take, drop}
use Rattle.error.specs.Answer.{gives}
use Rattle.ext.specs.Kinds.{Fields, none}
use Rattle.ext_write.specs.Ceiling.{Readable}
use Rattle.header.specs.Write.{fix_byte}
use Rattle.image.specs.Dots.{is_white}
use Rattle.image.specs.Geometry.{row_bytes, plane_bytes}
use Rattle.image.specs.Rows.{convert_format}
use Rattle.image.specs.declared.PixelFormat.TheVariants.{MonoBlack}
use Rattle.options.specs.Limits.{Mode, lenient, strict, Decoding, admits}
use Rattle.rules.specs.Rule.{Rule, dot}
use Rattle.quantize.specs.Finished.{frame}
use Rattle.decoder.specs.Image.{fields_of}
use Rattle.decoder.specs.Frames.{Image, shown, decoded}

-- the fields that a reading in this mode takes from a file that was written strictly or not: a lenient one those within the ceiling, and a
-- strict one none
abbrev pub Taken : Mode → Bool → Fields → Type 0
Taken lenient written fields = Readable fields
Taken strict written fields = fields ≡ none

-- no limit of the reading refuses the size
pub record Admitted (d : Decoding) (width height : ℕ) : Type 0 where
  pub wide : admits d.max_width width ≡ true
  pub high : admits d.max_height height ≡ true
  pub pixels : admits d.max_pixels (width * height) ≡ true
  pub bytes : admits d.max_bytes (plane_bytes width height) ≡ true

-- plane k of those that stand end to end
abbrev pub plane_in : ℕ → ℕ → List ℕ → ℕ → List ℕ
plane_in width height planes k = take (plane_bytes width height) (drop (k * plane_bytes width height) planes)

-- scan k of those that are lent, and the dot that the rule gives it at column x of row y: none outside the image
abbrev pub lent_scan : ℕ → ℕ → List ℕ → ℕ → List ℕ
lent_scan width height gray k = take (width * height) (drop (k * (width * height)) gray)

abbrev pub scan_white : Rule → ℕ → ℕ → List ℕ → ℕ → ℕ → Bool
scan_white rule width height scan x y = ltb x width && ltb y height && dot rule width (frame width height scan 0) x y

-- Whole reading of up to `most` frames shows this size, these fields and the first frames of so many, with the last of which the file ends.
-- Plane k is `plane k` in the asked format, and its dot at column x of row y is white where `white k x y` says so.
pub record ReadsBack (most : ℕ) (d : Decoding) (bytes : List ℕ) (width height : ℕ) (fields : Fields) (count : ℕ) (plane : ℕ → List ℕ)
    (white : ℕ → ℕ → ℕ → Bool) : Type 0 where
  pub image : Image
  pub output : List ℕ
  pub answer : (room : ℕ) → length output ≤ room → decoded most d bytes room ≡ gives image
  pub shows : shown most d bytes ≡ gives output
  pub width_is : image.width ≡ width
  pub height_is : image.height ≡ height
  pub frames_are : image.frames ≡ min count most
  pub written_is : image.written ≡ length output
  pub fix_is : image.fix ≡ fix_byte fields
  pub fields_are : fields_of d.mode bytes ≡ gives fields
  pub body_is : image.body + count * plane_bytes width height ≡ length bytes
  pub size : length output ≡ min count most * plane_bytes width height
  pub plane_is : (k : ℕ) → k < min count most
      → plane_in width height output k ≡ convert_format MonoBlack d.format width height (row_bytes width) (plane k)
  pub dots : (k x y : ℕ) → k < min count most
      → is_white d.format width height (row_bytes width) (plane_in width height output k) x y ≡ white k x y
