-- Files begun: all but the pairs of their headers is written, and what is left of them is named. `found` is the answer of the pairs' check.
use Rattle.std.specs.Prelude.{ℕ, ◌+◌, ◌≤◌, ◌≡◌, List, ℤ, length, Result, Ok}
use Rattle.error.specs.declared.WbmpError.{WbmpError}
use Rattle.error.specs.Emits.{Emits}
use Rattle.image.specs.declared.PixelFormat.{PixelFormat}
use Rattle.ext_write.specs.Internal.Left.{Left, ChecksPairs}
use Rattle.ext_write.specs.declared.PairsBegun.{PairsBegun}
use Rattle.header.specs.Write.{ext_header}
use Rattle.options.specs.declared.EncodeOptions.{EncodeOptions}
use Rattle.encoder.specs.Internal.Parts.{Heads}
use Rattle.encoder.specs.Make.{Makes}
use Rattle.encoder.specs.Write.{file_of_planes}
use Rattle.options.specs.Defaults.{made_frames}

-- the header, in front of a body of so many bytes, which has room behind it
abbrev pub BeginsBefore : ℕ → ℕ → ℕ → EncodeOptions → List ℕ → Result ℕ WbmpError → List ℕ → List ℕ → Result PairsBegun WbmpError → Type 0
BeginsBefore body width height o text found old new r =
    ((b : PairsBegun) → r ≡ Ok b → b.end + body ≤ length new)
    × (length new ≡ length old)
    × ((lengths : List ℕ) → ChecksPairs o.strict text lengths found
    → Left o.strict text lengths new (λ a out. Heads (ext_header o.strict width height o.ext text lengths) body a old out) r)

abbrev pub BeginsMade : ℕ → ℕ → ℕ → List ℕ → EncodeOptions → List ℕ → Result ℕ WbmpError → List ℤ → List ℤ → List ℕ → List ℕ
    → Result PairsBegun WbmpError → Type 0
BeginsMade width height count gray o text found work work' old new r =
    (lengths : List ℕ) → ChecksPairs o.strict text lengths found
    → Left o.strict text lengths new (λ a out. Makes made_frames o width height count gray text lengths old work a out work') r

abbrev pub BeginsImages : ℕ → ℕ → ℕ → List ℕ → ℕ → PixelFormat → EncodeOptions → List ℕ → Result ℕ WbmpError → List ℕ → List ℕ
    → Result PairsBegun WbmpError → Type 0
BeginsImages width height count planes stride format o text found old new r =
    (lengths : List ℕ) → ChecksPairs o.strict text lengths found
    → Left o.strict text lengths new
    (λ a out. Emits (file_of_planes made_frames o format width height count stride planes text lengths) a old out) r
