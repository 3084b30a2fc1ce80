-- Whole reading (document 01, decoder.rs): what a file shows, up to a ceiling of frames.
use Rattle.std.specs.Prelude.{ℕ, ◌*◌, ◌≡◌, List, leb, length, Result}
use Rattle.error.specs.declared.WbmpError.{WbmpError}
use Rattle.error.specs.Choice.{if}
use Rattle.error.specs.Answer.{Answer, gives, refuses, bind, map, answered}
use Rattle.error.specs.Emits.{output}
use Rattle.ext.specs.Kinds.{Span, ext_span}
use Rattle.header.specs.Read.{Outline}
use Rattle.image.specs.declared.PixelFormat.{PixelFormat}
use Rattle.options.specs.Limits.{Decoding, settled}
use Rattle.decoder.specs.Body.{plane_of, frames_in, planes}
use Rattle.decoder.specs.Image.{read_image}
use Rattle.decoder.specs.declared.DecodedImage.{DecodedImage}

-- the planes of a file in the asked format, end to end
unfoldable pub shown : ℕ → Decoding → List ℕ → Answer (List ℕ)
shown ceiling d bytes = map (λ h. planes d.format bytes h (frames_in ceiling (length bytes) h)) (read_image d bytes)

abbrev pub frames_of : ℕ → Decoding → List ℕ → Answer ℕ
frames_of ceiling d bytes = map (frames_in ceiling (length bytes)) (read_image d bytes)

-- What reading answers.
pub record Image : Type 0 where
  pub width : ℕ
  pub height : ℕ
  pub frames : ℕ
  -- the bytes written at the front of the lent output
  pub written : ℕ
  -- the FixHeader byte, where the fields stand, and where the body starts
  pub fix : ℕ
  pub fields : Span
  pub body : ℕ

abbrev pub image_of : Outline → ℕ → Image
image_of h frames =
    record {
      width = h.width;
      height = h.height;
      frames = frames;
      written = frames * plane_of h;
      fix = h.fix;
      fields = h.fields;
      body = h.body;
    }

-- "Whole reading gives 25 last": the planes do not fit an output of so many bytes
abbrev pub fitted : ℕ → Outline → ℕ → Answer Image
fitted room h frames = if (leb (frames * plane_of h) room) (gives (image_of h frames)) (refuses 25 0)

unfoldable pub decoded : ℕ → Decoding → List ℕ → ℕ → Answer Image
decoded ceiling d bytes room = bind (read_image d bytes) (λ h. fitted room h (frames_in ceiling (length bytes) h))

-- the settings are tested before all reading
abbrev pub decoded_by : ℕ → Decoding → List ℕ → ℕ → Answer Image
decoded_by ceiling d bytes room = bind (settled d) (λ s. decoded ceiling s bytes room)

abbrev pub shown_by : ℕ → Decoding → List ℕ → Answer (List ℕ)
shown_by ceiling d bytes = bind (settled d) (λ s. shown ceiling s bytes)

-- what whole reading promises of its answer and of the lent output; nothing is altered by a refusal
pub record Decodes (ceiling : ℕ) (d : Decoding) (bytes : List ℕ) (r : Answer Image) (old new : List ℕ) : Type 0 where
  pub answer : r ≡ decoded_by ceiling d bytes (length old)
  pub output_is : new ≡ output (shown_by ceiling d bytes) old

-- the same behind the test of the settings
pub record Imaged (ceiling : ℕ) (d : Decoding) (bytes : List ℕ) (r : Answer Image) (old new : List ℕ) : Type 0 where
  pub answer : r ≡ decoded ceiling d bytes (length old)
  pub output_is : new ≡ output (shown ceiling d bytes) old

-- and behind the tests of an image
pub record Framed (ceiling : ℕ) (format : PixelFormat) (bytes : List ℕ) (h : Outline) (r : Answer Image) (old new : List ℕ) : Type 0 where
  pub answer : r ≡ fitted (length old) h (frames_in ceiling (length bytes) h)
  pub output_is : new ≡ output (gives (planes format bytes h (frames_in ceiling (length bytes) h))) old

-- what the code's values mean
abbrev pub image : DecodedImage → Image
image i =
    record {
      width = i.width;
      height = i.height;
      frames = i.frames;
      written = i.bytes;
      fix = i.fix_header;
      fields = ext_span i.ext_fields;
      body = i.data_offset;
    }

abbrev pub meaning : Result DecodedImage WbmpError → Answer Image
meaning r = map image (answered r)
