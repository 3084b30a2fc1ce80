-- Reading as C asks for it (document 01, "C side").
use Rattle.std.specs.Prelude.{ℕ, ◌-◌, ◌^◌, List, eqb, Result}
use Rattle.error.specs.declared.WbmpError.{WbmpError}
use Rattle.options.specs.declared.DecodeOptions.{DecodeOptions}
use Rattle.error.specs.Choice.{if}
use Rattle.error.specs.Answer.{Answer, gives, refuses, bind, map, answered}
use Rattle.error.specs.Emits.{output}
use Rattle.image.specs.declared.PixelFormat.{PixelFormat}
use Rattle.image.specs.declared.PixelFormat.TheVariants.{MonoBlack, MonoWhite}
use Rattle.options.specs.Limits.{Bound, absent, at_most, Mode, lenient, strict, Decoding, ceiling_of, decoding}
use Rattle.decoder.specs.Frames.{Image, decoded_by, shown_by}

-- "Format is 0 (MonoBlack) or 1 (MonoWhite), strict 0 or 1; others are 29"
abbrev pub chosen : {A : Type 0} → ℕ → A → A → Answer A
chosen n a b = if (eqb n 0) (gives a) (if (eqb n 1) (gives b) (refuses 29 0))

abbrev pub format_of : ℕ → Answer PixelFormat
format_of n = chosen n MonoBlack MonoWhite

abbrev pub strict_of : ℕ → Answer Mode
strict_of n = chosen n lenient strict

-- a limit: the type's largest number says that it is absent
abbrev pub limit_of : ℕ → ℕ → Bound
limit_of largest n = if (eqb n largest) absent (at_most n)

-- the settings from format, strictness and the limits of width, height, pixels and plane bytes
unfoldable pub settings_of : ℕ → ℕ → ℕ → ℕ → ℕ → ℕ → Answer Decoding
settings_of format strictness width height pixels bytes =
    bind (format_of format)
    (λ f. bind (strict_of strictness)
    (λ m. gives (record {
      max_width = limit_of (2 ^ 32 - 1) width;
      max_height = limit_of (2 ^ 32 - 1) height;
      max_pixels = limit_of (2 ^ 64 - 1) pixels;
      max_bytes = limit_of (2 ^ 64 - 1) bytes;
      mode = m;
      format = f;
    })))

-- "29, before all reading": the settings, and then whole reading with them into an output of so many bytes
abbrev pub read_asked : Answer Decoding → List ℕ → ℕ → Answer Image
read_asked settings bytes room = bind settings (λ d. decoded_by (ceiling_of d) d bytes room)

-- the lent output afterwards: the planes at its front and the rest as it was; nothing is altered by a refusal
abbrev pub output_asked : Answer Decoding → List ℕ → List ℕ → List ℕ
output_asked settings bytes old = output (bind settings (λ d. shown_by (ceiling_of d) d bytes)) old

-- what the code's values mean
abbrev pub meaning : Result DecodeOptions WbmpError → Answer Decoding
meaning r = map decoding (answered r)
