-- The header and the tests of an image (document 01, decoder.rs and "Refused").
use Rattle.std.specs.Prelude.{ℕ, ◌-◌, List, ltb, length}
use Rattle.error.specs.Choice.{if}
use Rattle.error.specs.Answer.{Answer, gives, refuses, bind, map}
use Rattle.ext.specs.Kinds.{Fields}
use Rattle.header.specs.Read.{Header, Outline, outline, read_header}
use Rattle.options.specs.Limits.{Mode, Decoding, settled, check_limits}
pub use Rattle.options.specs.Limits.{image_settings}
use Rattle.decoder.specs.Body.{plane_of}

-- the header of an image, with its fields by their span, and the fields themselves
abbrev pub header_of : Mode → List ℕ → Answer Outline
header_of mode bytes = map outline (read_header (image_settings mode) bytes)

abbrev pub fields_of : Mode → List ℕ → Answer Fields
fields_of mode bytes = map (λ (h : Header). h.fields) (read_header (image_settings mode) bytes)

-- what is tested behind the header, in a file of so many bytes: "16, 17, 18, 19, body's start", then "20, body's start: plane too short"
unfoldable pub test_body : Decoding → ℕ → Outline → Answer Outline
test_body d size h =
    bind (check_limits d h.width h.height (plane_of h) h.body)
    (λ _. if (ltb (size - h.body) (plane_of h)) (refuses 20 h.body) (gives h))

unfoldable pub read_image : Decoding → List ℕ → Answer Outline
read_image d bytes = bind (header_of d.mode bytes) (test_body d (length bytes))

-- the settings are tested before all reading
abbrev pub image_read : Decoding → List ℕ → Answer Outline
image_read d bytes = bind (settled d) (λ s. read_image s bytes)
