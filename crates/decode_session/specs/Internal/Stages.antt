-- What the calls of a session promise in each stage.
use Rattle.std.specs.Prelude.{ℕ, ◌+◌, ◌*◌, ◌≤◌, ◌<◌, ◌≡◌, true, List, ◌++◌, length, take, Result, Ok, Err}
use Rattle.error.specs.Answer.{gives}
use Rattle.error.specs.declared.Refusal.TheVariants.{BufferTooShort}
use Rattle.error.specs.declared.WbmpError.{WbmpError}
use Rattle.ext.specs.Kinds.{longest_fields}
use Rattle.header.specs.Read.{Outline, parsed}
use Rattle.header_reader.specs.declared.FieldsSeen.{FieldsSeen}
use Rattle.header.specs.declared.ParsedHeader.{ParsedHeader}
use Rattle.header_pieces.specs.Internal.Head.{TellsFields}
use Rattle.header_pieces.specs.declared.HeadReading.{HeadReading}
use Rattle.options.specs.Limits.{decoding, ceiling_of}
use Rattle.options.specs.declared.DecodeOptions.{DecodeOptions}
use Rattle.decoder.specs.Body.{plane_of}
use Rattle.decoder.specs.Image.{header_of}
use Rattle.decode_session.specs.Sequence.{sequence}
use Rattle.decode_session.specs.Model.{nothing, Model, Outcome, fed_by, meets, stored, closing}
use Rattle.decode_session.specs.Session.{fed_meaning, closed_meaning, InBody, BeforeHeader, StageOf, Settled, Stands, Feeds}
use Rattle.decode_session.specs.declared.Stage.{Stage}
use Rattle.error.specs.declared.Fed.{Fed}
use Rattle.decode_session.specs.declared.DecodeSession.{DecodeSession}

-- a reply and a session that are a plain machine's
pub record FedAs (r : Result Fed WbmpError) (s : DecodeSession) (out' ext' : List ℕ) (x : Outcome) : Type 0 where
  pub reply : x.reply ≡ record { answer = fed_meaning r; output = out'; extension = ext' }
  pub stands : Stands s x.next

-- an open session in a stage
abbrev pub in_stage : DecodeOptions → Stage → DecodeSession
in_stage o stage = record { options = o; stage = stage; live = true }

-- a call that comes to a stage, or meets a refusal of the file: its answer, and the stage behind it, which keeps the refusal with what was
-- known of the fields before
abbrev pub answer_of : Result (Stage × Fed) WbmpError → Result Fed WbmpError
answer_of (Ok x) = Ok x.1
answer_of (Err e) = Err e

abbrev pub stage_of : FieldsSeen → Result (Stage × Fed) WbmpError → Stage
stage_of f (Ok x) = x.0
stage_of f (Err e) = Stage.Refused e f

-- an extension buffer of so many bytes passes its test, or is too short
abbrev pub ChecksBuffer : ℕ → Result (Unit {0}) WbmpError → Type 0
ChecksBuffer n (Ok u) = longest_fields ≤ n
ChecksBuffer n (Err e) = (n < longest_fields) × (e ≡ record { kind = BufferTooShort; offset = 0 })

-- a plain machine with other bytes taken
abbrev pub having : Model → List ℕ → Model
having m bytes = record { options = m.options; live = true; bytes = bytes; met = nothing }

-- in the body once the first bytes of a piece are taken, none of which is the body's
pub record Enters (m : Model) (piece : List ℕ) (from : ℕ) (h : Outline) (whole begun : ℕ) : Type 0 where
  pub in_body : InBody (having m (m.bytes ++ take from piece)) h whole begun
  pub earlier : length (sequence (ceiling_of m.options) m.options m.bytes) ≡ whole * plane_of h + begun

-- the extension bytes of the piece are stored by then
pub record FeedsPlanes (o : DecodeOptions) (h : ParsedHeader) (whole begun from : ℕ) (piece out : List ℕ) (next : Stage) (fed : Fed)
    (out' : List ℕ) : Type 0 where
  pub does : (m : Model) (ext : List ℕ) → Settled m.options → decoding o ≡ m.options → Enters m piece from (parsed h) whole begun
      → FedAs (Ok fed) (in_stage o next) out' (stored m (m.bytes ++ piece) ext) (fed_by m piece out ext nothing)

-- the header ends with the first bytes of a piece
pub record Ended (m : Model) (piece : List ℕ) (from : ℕ) (h : Outline) : Type 0 where
  pub within : from ≤ length piece
  pub header : header_of m.options.mode (m.bytes ++ take from piece) ≡ gives h
  pub body : h.body ≡ length m.bytes + from
  pub none : length (sequence (ceiling_of m.options) m.options m.bytes) ≡ 0

pub record Begins (o : DecodeOptions) (h : ParsedHeader) (from : ℕ) (piece out : List ℕ) (r : Result (Stage × Fed) WbmpError)
    (out' : List ℕ) : Type 0 where
  pub does : (f : FieldsSeen) (m : Model) (ext : List ℕ) → Settled m.options → decoding o ≡ m.options
      → BeforeHeader m f → Ended m piece from (parsed h)
      → FedAs (answer_of r) (in_stage o (stage_of f r)) out' (stored m (m.bytes ++ piece) ext) (fed_by m piece out ext (meets m piece))

-- a piece for a session in the header, which tells what is known of the fields
pub record FeedsHead (o : DecodeOptions) (h : HeadReading) (piece out ext : List ℕ) (r : Result (Stage × Fed) WbmpError)
    (out' ext' : List ℕ) : Type 0 where
  pub does : (f : FieldsSeen) → TellsFields h f
      → Feeds (in_stage o (Stage.Header h)) piece out ext (answer_of r) (in_stage o (stage_of f r)) out' ext'

-- what closing answers
pub record Finishes (s : Stage) (r : Result ℕ WbmpError) : Type 0 where
  pub does : (m : Model) → Settled m.options → StageOf s m → closed_meaning r ≡ closing m m.met
