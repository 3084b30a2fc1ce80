-- What the header's part of a piece comes to.
use Rattle.std.specs.Prelude.{◌≡◌, ℕ, ◌+◌, ◌<◌, ◌≤◌, Bool, true, false, ◌&&◌, List, ◌++◌, length, drop, nat_lt, slice_set, Result, Ok, Err}
use Rattle.std.proofs.lemmas.List.Edits.{sets}
use Rattle.error.specs.Answer.{gives, refuses, refusal, map, is_end, number}
use Rattle.error.specs.declared.WbmpError.{WbmpError}
use Rattle.ext.specs.Kinds.{longest_fields}
use Rattle.header.specs.Settings.{Settings}
use Rattle.header.specs.Read.{outline, parsed, read_header}
use Rattle.header.specs.declared.ParsedHeader.{ParsedHeader}
use Rattle.header_reader.specs.Known.{fields_known, known_meaning}
use Rattle.header_reader.specs.Internal.Machine.{State, start, more, steps}
use Rattle.header_reader.specs.Internal.Represents.{HeaderStep, Represents}
use Rattle.header_reader.specs.declared.FieldsSeen.{FieldsSeen}
use Rattle.header_reader.specs.declared.reader.HeaderReader.{HeaderReader}
use Rattle.header_pieces.specs.Extension.{field_bytes}
use Rattle.header_pieces.specs.declared.HeadReading.{HeadReading}
use Rattle.std.specs.declared.ops.ControlFlow.{ControlFlow}
use Rattle.std.specs.declared.ops.ControlFlow.TheVariants.{Continue, Break}

-- a reader that has taken these bytes, `at` in all and `kept` extension bytes among them
pub record Reached (o : Settings) (bytes : List ℕ) (r : HeaderReader) (at kept : ℕ) : Type 0 where
  pub state : State
  pub represents : Represents r o state
  pub reached : steps o start bytes ≡ more state
  pub at_is : at ≡ length bytes
  pub kept_is : kept ≡ length (field_bytes o bytes)

-- a header that is being read, of which these bytes were taken
abbrev pub HasRead : Settings → List ℕ → HeadReading → Type 0
HasRead o bytes h = Reached o bytes h.reader h.at h.kept

-- what it tells of those bytes: their extension fields, and the refusal of a file that ends with them
abbrev pub TellsFields : HeadReading → FieldsSeen → Type 0
TellsFields h f = (o : Settings) (bytes : List ℕ) → HasRead o bytes h → known_meaning f ≡ fields_known o bytes

abbrev pub TellsEnd : HeadReading → WbmpError → Type 0
TellsEnd h e = (o : Settings) (bytes : List ℕ) → HasRead o bytes h → refusal e ≡ map outline (read_header o bytes)

abbrev pub HeadFed : Type 0
HeadFed = ControlFlow (ParsedHeader × ℕ) HeadReading

-- the reading goes on behind the piece, or has ended in it with the header or a refusal
abbrev pub Ends : Settings → List ℕ → List ℕ → Result HeadFed WbmpError → Type 0
Ends o bytes piece (Ok (Continue next)) = HasRead o (bytes ++ piece) next
Ends o bytes piece (Ok (Break (h, taken))) =
    (map outline (read_header o (bytes ++ piece)) ≡ gives (parsed h)) × (h.data_offset ≡ length bytes + taken)
Ends o bytes piece (Err e) =
    (map outline (read_header o (bytes ++ piece)) ≡ refuses (number e.kind) e.offset) × (is_end (number e.kind) ≡ false)

-- for whatever bytes the reading has taken; the extension bytes of the piece are stored behind those kept, and over a buffer that is
-- short of them nothing is done
pub record Heads (h₀ : HeadReading) (piece ext : List ℕ) (r : Result HeadFed WbmpError) (ext' : List ℕ) : Type 0 where
  pub within : (h : ParsedHeader) (taken : ℕ) → r ≡ Ok (Break (h, taken)) → taken ≤ length piece
  pub short : length ext < longest_fields → (r ≡ Ok (Continue h₀)) × (ext' ≡ ext)
  pub does : longest_fields ≤ length ext → (o : Settings) (bytes : List ℕ) → HasRead o bytes h₀ → Ends o bytes piece r
  pub stores : longest_fields ≤ length ext → (o : Settings) (bytes : List ℕ) → HasRead o bytes h₀
      → ext' ≡ sets ext h₀.kept (drop h₀.kept (field_bytes o (bytes ++ piece)))

-- whether a byte at an offset is stored: one of the fields, and before the place of its refusal
abbrev pub is_kept : Bool → ℕ → Result HeaderStep WbmpError → Bool
is_kept inside at (Ok (Continue r)) = inside
is_kept inside at (Ok (Break h)) = false
is_kept inside at (Err e) = inside && nat_lt at e.offset

-- a byte is stored behind those kept, where it is wanted and has room
pub record Keeps (kept byte : ℕ) (wanted : Bool) (ext : List ℕ) (r : ℕ) (ext' : List ℕ) : Type 0 where
  pub stored : wanted ≡ true → kept < length ext → (r ≡ kept + 1) × (ext' ≡ slice_set ext kept byte)
  pub left : wanted ≡ false → (r ≡ kept) × (ext' ≡ ext)
