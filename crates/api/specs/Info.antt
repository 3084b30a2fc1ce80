-- What is told of a file without reading its dots (document 01, api.rs): "`info` tests no limit and says 1 frame when the body is short."
use Rattle.std.specs.Prelude.{ℕ, List, length, Result}
use Rattle.error.specs.declared.WbmpError.{WbmpError}
use Rattle.error.specs.Answer.{Answer, map, answered}
use Rattle.ext.specs.Kinds.{Span, ext_span}
use Rattle.header.specs.Read.{Outline}
use Rattle.options.specs.Limits.{lenient}
use Rattle.decoder.specs.Body.{frames_in}
use Rattle.decoder.specs.Image.{header_of}
use Rattle.api.specs.declared.ImageInfo.{ImageInfo}

pub record Info : Type 0 where
  pub width : ℕ
  pub height : ℕ
  pub frames : ℕ
  -- the FixHeader byte, where the fields stand, and where the body starts
  pub fix : ℕ
  pub fields : Span
  pub body : ℕ

-- of a file of so many bytes; the ceiling is 16 frames
abbrev pub info_of : ℕ → Outline → Info
info_of size h =
    record { width = h.width; height = h.height; frames = frames_in 16 size h; fix = h.fix; fields = h.fields; body = h.body }

-- the header is read leniently
unfoldable pub read_info : List ℕ → Answer Info
read_info bytes = map (info_of (length bytes)) (header_of lenient bytes)

-- what the code's values mean
abbrev pub told : ImageInfo → Info
told i =
    record {
      width = i.width;
      height = i.height;
      frames = i.frames;
      fix = i.fix_header;
      fields = ext_span i.ext_fields;
      body = i.data_offset;
    }

abbrev pub meaning : Result ImageInfo WbmpError → Answer Info
meaning r = map told (answered r)
