-- What a reading puts out (document 01, "Reading session"): "Output in sequence is the body, in the asked format, up to 16 planes".
use Rattle.std.specs.Prelude.{ℕ, zero, suc, ◌+◌, ◌*◌, List, [], ◌++◌, leb, length, take, drop}
use Rattle.error.specs.Choice.{if}
use Rattle.error.specs.Answer.{Answer, gives, refuses}
use Rattle.header.specs.Read.{Outline}
use Rattle.image.specs.declared.PixelFormat.{PixelFormat}
use Rattle.options.specs.Limits.{Decoding}
use Rattle.decoder.specs.Body.{plane_of}
use Rattle.decoder.specs.Image.{header_of}
use Rattle.body_pieces.specs.InFormat.{body_from}

-- of a file so far in which no refusal is met, behind its header, up to a ceiling of planes
abbrev pub sequence_of : ℕ → PixelFormat → List ℕ → Answer Outline → List ℕ
sequence_of ceiling format bytes (gives h) = body_from format h.width 0 (take (ceiling * plane_of h) (drop h.body bytes))
sequence_of ceiling format bytes (refuses code place) = []

unfoldable pub sequence : ℕ → Decoding → List ℕ → List ℕ
sequence ceiling d bytes = sequence_of ceiling d.format bytes (header_of d.mode bytes)

-- the most of a piece's first k bytes, behind those taken, whose plane bytes fit in a room
unfoldable pub most : ℕ → Decoding → List ℕ → List ℕ → ℕ → ℕ → ℕ
most ceiling d bytes piece room zero = 0
most ceiling d bytes piece room (suc k) =
    if (leb (length (sequence ceiling d (bytes ++ take (suc k) piece))) (length (sequence ceiling d bytes) + room)) (suc k)
    (most ceiling d bytes piece room k)
