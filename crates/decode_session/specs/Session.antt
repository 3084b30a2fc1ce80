-- What a session stands for, and what its calls promise.
use Rattle.std.specs.Prelude.{ℕ, ◌+◌, ◌-◌, ◌*◌, ◌/◌, ◌≤◌, ◌<◌, ◌≡◌, Bool, not, List, [], ◌⊎◌, leb, length, Option, Some, None, Result, Ok, Err}
use Rattle.header.specs.declared.ParsedHeader.{ParsedHeader}
use Rattle.error.specs.declared.WbmpError.{WbmpError}
use Rattle.error.specs.Choice.{if}
use Rattle.error.specs.Answer.{Answer, gives, refuses, checked, number}
use Rattle.error.specs.Answer as Answers
use Rattle.header.specs.Read.{Outline, parsed}
use Rattle.header_reader.specs.Known.{Known, fields_known, known_meaning}
use Rattle.header_reader.specs.declared.FieldsSeen.{FieldsSeen}
use Rattle.options.specs.Limits.{Decoding, settled, ceiling_of, decoding, check_limits}
use Rattle.decoder.specs.Body.{plane_of}
use Rattle.decoder.specs.Image.{image_settings, header_of}
use Rattle.header_pieces.specs.Internal.Head.{HasRead}
use Rattle.decode_session.specs.Model.{Met, nothing, met_at, Model, feed, close, Told, took, frames, shut, outcome}
use Rattle.decode_session.specs.declared.Stage.{Stage}
use Rattle.decode_session.specs.declared.DecodeSession.{DecodeSession}
use Rattle.error.specs.declared.Fed.{Fed}

-- what the code's answers mean
abbrev pub fed_meaning : Result Fed WbmpError → Answer Told
fed_meaning (Ok f) = gives (took f.taken f.written)
fed_meaning (Err e) = Answers.refusal e

abbrev pub closed_meaning : Result ℕ WbmpError → Answer Told
closed_meaning (Ok n) = gives (frames n)
closed_meaning (Err e) = Answers.refusal e

-- the header of the file so far
pub data Seen : Type 0 where
  unread : Seen
  seen : Outline → Seen

abbrev pub seen_meaning : Option ParsedHeader → Seen
seen_meaning None = unread
seen_meaning (Some h) = seen (parsed h)

abbrev pub seen_of : Answer Outline → Met → Seen
seen_of (gives h) nothing = seen h
seen_of (refuses code place) nothing = unread
seen_of a (met_at code place) = unread

abbrev pub header_seen : Model → Seen
header_seen m = seen_of (header_of m.options.mode m.bytes) m.met

-- how many frames of a file so far are done: the whole planes behind its header, up to a ceiling, and none before the header is read
abbrev pub whole_in : ℕ → ℕ → Answer Outline → ℕ
whole_in ceiling size (gives h) = let n = (size - h.body) / plane_of h in if (leb n ceiling) n ceiling
whole_in ceiling size (refuses code place) = 0

abbrev pub frames_done : Model → ℕ
frames_done m = whole_in (ceiling_of m.options) (length m.bytes) (header_of m.options.mode m.bytes)

-- the extension fields of the bytes taken; those that end in a refused call's piece are not among them
abbrev pub fields_seen : Model → Known
fields_seen m = fields_known (image_settings m.options.mode) m.bytes

-- in the body: so many whole planes, and so many bytes of the begun one; behind the last plane bytes are dropped
pub record InBody (m : Model) (h : Outline) (whole begun : ℕ) : Type 0 where
  pub nothing_met : m.met ≡ nothing
  pub header_is : header_of m.options.mode m.bytes ≡ gives h
  pub admitted : check_limits m.options h.width h.height (plane_of h) h.body ≡ gives tt
  pub start : h.body ≤ length m.bytes
  pub below : begun < plane_of h
  pub place : ((whole < ceiling_of m.options) × (h.body + (whole * plane_of h + begun) ≡ length m.bytes))
      ⊎ ((whole ≡ ceiling_of m.options) × ((begun ≡ 0) × (h.body + whole * plane_of h ≤ length m.bytes)))

-- before the header is read: no frame is done, and so much is known of the fields
pub record BeforeHeader (m : Model) (f : FieldsSeen) : Type 0 where
  pub none : frames_done m ≡ 0
  pub fields : known_meaning f ≡ fields_seen m

abbrev pub StageOf : Stage → Model → Type 0
StageOf (Stage.Header h) m = (m.met ≡ nothing) × HasRead (image_settings m.options.mode) m.bytes h
StageOf (Stage.Body h whole begun) m = InBody m (parsed h) whole begun
StageOf (Stage.Refused e f) m = (m.met ≡ met_at (number e.kind) e.offset) × BeforeHeader m f

-- the settings passed their test
abbrev pub Settled : Decoding → Type 0
Settled d = settled d ≡ gives d

pub record Stands (s : DecodeSession) (m : Model) : Type 0 where
  pub tested : Settled m.options
  pub options : decoding s.options ≡ m.options
  pub live : s.live ≡ m.live
  pub stage : StageOf s.stage m

-- ---- the contracts; the session keeps nothing in a buffer, so they hold for every buffer

-- Opening is lent the extension buffer and leaves it as it was. A session whose opening is refused stands for the closed machine.
pub record Opens (a : Answer (Unit {0})) (s : DecodeSession) (r : Result (Unit {0}) WbmpError) (m : Model) : Type 0 where
  pub answer : checked r ≡ a
  pub stands : a ≡ gives tt → Stands s m
  pub refused : (code place : ℕ) → a ≡ refuses code place → Stands s (shut m)

pub record Feeds (s : DecodeSession) (piece out ext : List ℕ) (r : Result Fed WbmpError) (s' : DecodeSession)
    (out' ext' : List ℕ) : Type 0 where
  pub does : (m : Model) → Stands s m
      → ((outcome m (feed piece out ext)).reply ≡ record { answer = fed_meaning r; output = out'; extension = ext' })
      × Stands s' (outcome m (feed piece out ext)).next

pub record Closes (s : DecodeSession) (r : Result ℕ WbmpError) (s' : DecodeSession) : Type 0 where
  pub does : (m : Model) → Stands s m
      → ((outcome m close).reply ≡ record { answer = closed_meaning r; output = []; extension = [] })
      × Stands s' (outcome m close).next

-- ---- what can be asked of a session, open or closed, refused or not

-- its header, with its fields by their span in the file
pub record Sees (s : DecodeSession) (r : Option ParsedHeader) : Type 0 where
  pub does : (m : Model) → Stands s m → seen_meaning r ≡ header_seen m

-- whether it is closed; told of every session, also of one that stands for no machine
pub record TellsClosed (s : DecodeSession) (r : Bool) : Type 0 where
  pub is : r ≡ not s.live
  pub does : (m : Model) → Stands s m → r ≡ not m.live

-- how many frames are done
pub record TellsFrames (s : DecodeSession) (r : ℕ) : Type 0 where
  pub does : (m : Model) → Stands s m → r ≡ frames_done m

-- the extension fields, before the sizes are read and after a refusal too
pub record SeesFields (s : DecodeSession) (r : FieldsSeen) : Type 0 where
  pub does : (m : Model) → Stands s m → known_meaning r ≡ fields_seen m
