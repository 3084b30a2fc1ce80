-- Condition 3 of the tender, as document 01 tells it ("Lists (condition 3)"): one claim about lists of calls on a session that makes a card
-- and on one that reads it.
use Rattle.std.specs.Prelude.{ℕ, ◌*◌, ◌^◌, ◌≤◌, ◌<◌, ◌≡◌, Bool, true, false, ◌||◌, List, [], ◌∷◌, ◌++◌, ℤ, length, take, drop}
use Rattle.std.specs.Prelude.{Option, Result}
use Rattle.header.specs.declared.ParsedHeader.{ParsedHeader}
use Rattle.error.specs.Answer.{Answer, gives, refuses, map, written, checked}
use Rattle.error.specs.declared.WbmpError.{WbmpError}
use Rattle.ext.specs.Kinds.{Fields, none, Span, absent, span}
use Rattle.ext.specs.Read.{read_fields}
use Rattle.header.specs.Read.{Outline}
use Rattle.header.specs.Write.{presented}
use Rattle.image.specs.Dots.{is_white}
use Rattle.image.specs.Geometry.{row_bytes, plane_bytes}
use Rattle.options.specs.Limits.{Decoding, ceiling_of}
use Rattle.options.specs.Defaults.{made_frames}
use Rattle.decoder.specs.Frames.{shown, frames_of}
use Rattle.quantize.specs.Finished.{finished}
use Rattle.encoder.specs.Make.{file_of_scans}
use Rattle.encode_session.specs.Model as Making
use Rattle.encode_session.specs.Session as MakingSession
use Rattle.encode_session.specs.Trace as MakingTrace
use Rattle.encode_session.specs.declared.EncodeSession.{EncodeSession}
use Rattle.decode_session.specs.Model as Reading
use Rattle.decode_session.specs.Session as ReadingSession
use Rattle.decode_session.specs.Trace as ReadingTrace
use Rattle.decode_session.specs.declared.DecodeSession.{DecodeSession}
use Rattle.conformance.specs.ReadBack.{Taken, Admitted, plane_in, lent_scan, scan_white}

-- A list on an opened card maker: an accepted opening, which wrote the header, then calls and what they replied.
pub record MakingList (a : Making.Opening) (header : List ℕ) (cs : List Making.Call) (rs : List Making.Reply) : Type 0 where
  pub work : List ℤ
  pub old : List ℕ
  pub new : List ℕ
  pub opened : EncodeSession
  pub answer : Result ℕ WbmpError
  pub last : EncodeSession
  pub wide : a.width < 2 ^ 32
  pub high : a.height < 2 ^ 32
  pub opens : MakingSession.Opens a (length work) opened answer old new
  pub accepted : written answer ≡ gives (length header)
  pub front : take (length header) new ≡ header
  pub trace : MakingTrace.Trace opened work cs rs last

-- A list on an opened reading session.
pub record ReadingList (d : Decoding) (cs : List Reading.Call) (rs : List Reading.Reply) (last : DecodeSession)
    (extension : List ℕ) : Type 0 where
  pub lent : List ℕ
  pub opened : DecodeSession
  pub answer : Result (Unit {0}) WbmpError
  pub opens : ReadingSession.Opens (Reading.opening d (length lent)) opened answer (Reading.opened d)
  pub accepted : checked answer ≡ gives tt
  pub trace : ReadingTrace.Trace opened lent cs rs last extension

-- "the samples .. taken, joined in call order": of each call so many as its answer says
abbrev pub taken_by : Making.Call → Answer Making.Told → List ℕ
taken_by (Making.feed xs out work) (gives (Making.took n b)) = take n xs
taken_by (Making.feed xs out work) (gives Making.closed) = []
taken_by (Making.feed xs out work) (refuses code place) = []
taken_by Making.close a = []

unfoldable pub samples_of : List Making.Call → List Making.Reply → List ℕ
samples_of [] rs = []
samples_of (c ∷ cs) [] = []
samples_of (c ∷ cs) (r ∷ rs) = taken_by c r.answer ++ samples_of cs rs

-- a closing call was accepted
abbrev pub is_closing : Answer Making.Told → Bool
is_closing (gives (Making.took n b)) = false
is_closing (gives Making.closed) = true
is_closing (refuses code place) = false

unfoldable pub was_closed : List Making.Reply → Bool
was_closed [] = false
was_closed (r ∷ rs) = is_closing r.answer || was_closed rs

-- the fields that a reading ends with: its kind's number, and the octets or pairs of the extension buffer
abbrev pub fields_shown : Span → List ℕ → Answer Fields
fields_shown absent extension = gives none
fields_shown (span kind start len pairs) extension = map (λ f. f.0) (read_fields false true kind (take len extension) 0)

-- "Shown are size and fields as the session ends with them (kind; pairs or octets in order, kind 00 without bit 7), frame count, and
-- `is_white` at each dot of the joined outputs": those that the definitions give for k uncut scans
pub record Shows (d : Decoding) (a : Making.Opening) (fields : Fields) (k : ℕ) (scans : List ℕ) (last : DecodeSession)
    (extension joined : List ℕ)
    (closing : Answer Reading.Told) : Type 0 where
  pub header : Outline
  pub seen : (r : Option ParsedHeader) → ReadingSession.Sees last r → ReadingSession.seen_meaning r ≡ ReadingSession.seen header
  pub width : header.width ≡ a.width
  pub height : header.height ≡ a.height
  pub fields_are : fields_shown header.fields extension ≡ gives fields
  pub frames : closing ≡ gives (Reading.frames k)
  pub size : length joined ≡ k * plane_bytes a.width a.height
  pub dots : (f x y : ℕ) → f < k
      → is_white d.format a.width a.height (row_bytes a.width) (plane_in a.width a.height joined f) x y
      ≡ scan_white (Making.setting_of a).rule a.width a.height (lent_scan a.width a.height scans f) x y

-- a card whose making was closed: its bytes are those of whole making of k scans
pub record Card (a : Making.Opening) (scans bytes : List ℕ) (k : ℕ) : Type 0 where
  pub some : 1 ≤ k
  pub most : k ≤ made_frames
  pub samples : length scans ≡ k * (a.width * a.height)
  pub file : (work : ℕ) → Making.serves a work ≡ true
      → file_of_scans made_frames a.options a.width a.height k scans a.text a.lengths work ≡ gives bytes
  pub fields : Fields
  pub presents : presented a.options.ext a.text a.lengths ≡ gives fields
  -- "and under whichever cut the card reaches the picker, lenient reading shows the size, fields, frames and dots that those definitions
  -- give for the uncut scans, if the fields pass the reader's 4,096 ceiling and its limits admit the card"; a strict reading shows a card
  -- without fields
  pub shown : {d : Decoding} {cs : List Reading.Call} {rs : List Reading.Reply} {last : DecodeSession} {extension : List ℕ}
      {closing : Answer Reading.Told}
      → Taken d.mode a.options.strict fields → Admitted d a.width a.height → ReadingList d cs rs last extension
      → ReadingTrace.Cut bytes 0 false cs rs closing
      → Shows d a fields k scans last extension (ReadingTrace.joined rs) closing

pub record Condition3 : Type 0 where
  -- "Compared after every call, the opening included": an accepted opening of a maker wrote the plain machine's header and altered nothing
  -- behind it, and the plain machine accepts an accepted opening of a reading
  pub maker_opens : {a : Making.Opening} {header : List ℕ} {cs : List Making.Call} {rs : List Making.Reply} (l : MakingList a header cs rs)
      → (Making.header a (length l.work) ≡ gives header) × (l.new ≡ header ++ drop (length header) l.old)
  pub reader_opens : {d : Decoding} {cs : List Reading.Call} {rs : List Reading.Reply} {last : DecodeSession} {extension : List ℕ}
      (l : ReadingList d cs rs last extension) → Reading.opening d (length l.lent) ≡ gives tt
  -- "answers and bytes are those of document 01's plain machine": every list on a maker
  pub making : {a : Making.Opening} {header : List ℕ} {cs : List Making.Call} {rs : List Making.Reply} → MakingList a header cs rs
      → rs ≡ Making.replies (Making.opened a) cs
  -- and every list on a reading
  pub reading : {d : Decoding} {cs : List Reading.Call} {rs : List Reading.Reply} {last : DecodeSession} {extension : List ℕ}
      → ReadingList d cs rs last extension → rs ≡ Reading.replies (Reading.opened d) cs
  -- "The bytes written, header first, are the definitions' finished bytes for the samples taken", whether the maker is closed or not
  pub finishes : {a : Making.Opening} {header : List ℕ} {cs : List Making.Call} {rs : List Making.Reply} (l : MakingList a header cs rs)
      → map (λ front. front ++ finished (Making.setting_of a) (samples_of cs rs)) (Making.header a (length l.work))
      ≡ gives (header ++ MakingTrace.joined rs)
  -- "Once the maker's closing is accepted, the samples taken are 1 to 16 scans of its size"
  pub card : {a : Making.Opening} {header : List ℕ} {cs : List Making.Call} {rs : List Making.Reply} → MakingList a header cs rs
      → was_closed rs ≡ true → (k : ℕ) × Card a (samples_of cs rs) (header ++ MakingTrace.joined rs) k
  -- "A file that whole reading refuses for its own bytes or limits is refused with the same number and place under every cut": closing a
  -- cut of any file ends as whole reading of it does
  pub whole : {file : List ℕ} {d : Decoding} {cs : List Reading.Call} {rs : List Reading.Reply} {last : DecodeSession} {extension : List ℕ}
      {closing : Answer Reading.Told} → ReadingList d cs rs last extension → ReadingTrace.Cut file 0 false cs rs closing
      → (closing ≡ map Reading.frames (frames_of (ceiling_of d) d file))
      × ((out : List ℕ) → shown (ceiling_of d) d file ≡ gives out → take (length out) (ReadingTrace.joined rs) ≡ out)
