-- What a session stands for, and what its calls promise.
use Rattle.std.specs.Prelude.{ℕ, ◌+◌, ◌≡◌, Bool, true, not, List, ℤ, length, Result, Ok, Err}
use Rattle.error.specs.declared.WbmpError.{WbmpError}
use Rattle.error.specs.Answer.{Answer, gives, refuses, refusal, bind, checked, written as meant_written}
use Rattle.error.specs.Emits.{Emits}
use Rattle.header.specs.Write.{ext_header}
use Rattle.options.specs.Defaults.{made_frames}
use Rattle.options.specs.declared.EncodeOptions.{EncodeOptions}
use Rattle.quantize.specs.Internal.Engine.{Runs, frames_left, QuantizerAt, QuantizerAfter}
use Rattle.encode_session.specs.Model.{Opening, opening, setting_of, header, Model, opened, frames_done, shut, feed, close, Told, took}
use Rattle.encode_session.specs.Model.{closed, outcome}
use Rattle.encode_session.specs.declared.EncodeSession.{EncodeSession}
use Rattle.error.specs.declared.Fed.{Fed}

-- what the code's answers mean
abbrev pub fed_meaning : Result Fed WbmpError → Answer Told
fed_meaning (Ok f) = gives (took f.taken f.written)
fed_meaning (Err e) = refusal e

abbrev pub closed_meaning : Result (Unit {0}) WbmpError → Answer Told
closed_meaning (Ok u) = gives closed
closed_meaning (Err e) = refusal e

-- the session's own numbers are those of the model; while it is open, the engine stands behind the samples taken
pub record Stands (s : EncodeSession) (m : Model) : Type 0 where
  pub live : s.live ≡ m.live
  pub left : frames_left s.quantizer + frames_done m ≡ made_frames
  pub place : m.live ≡ true → QuantizerAt s.quantizer (setting_of m.opening) (length m.samples)

-- the work buffer too is as the model's samples leave it
pub record Holds (s : EncodeSession) (work : List ℤ) (m : Model) : Type 0 where
  pub stands : Stands s m
  pub keeps : m.live ≡ true → QuantizerAfter s.quantizer work (setting_of m.opening) m.samples

-- ---- the contracts

-- Opening: the header is written; whatever a work buffer holds, the session then stands for the opened model. A session whose opening is
-- refused stands for the closed one.
pub record Opens (a : Opening) (work : ℕ) (s : EncodeSession) (r : Result ℕ WbmpError) (old new : List ℕ) : Type 0 where
  pub emits : Emits (header a work) (meant_written r) old new
  pub holds : (n : ℕ) → meant_written r ≡ gives n → (any : List ℤ) → Holds s any (opened a)
  pub refused : (code place : ℕ) → meant_written r ≡ refuses code place → (any : List ℤ) → Holds s any (shut (opened a))

-- The tests of opening: behind them the header is that of its fields.
abbrev pub ChecksOpening : EncodeOptions → ℕ → ℕ → ℕ → Result (Unit {0}) WbmpError → Type 0
ChecksOpening o width height work r =
    (text lengths : List ℕ)
    → header (opening o width height text lengths) work ≡ bind (checked r) (λ _. ext_header o.strict width height o.ext text lengths)

-- Feeding. Answers and counts are the model's whatever the work buffer holds; the bytes are too where it is as the last call left it. What
-- the engine does with other numbers is its own contract, `Runs`: one outside -128..128 counts as the nearer end.
pub record Feeds (s : EncodeSession) (xs out : List ℕ) (work : List ℤ) (r : Result Fed WbmpError) (s' : EncodeSession) (out' : List ℕ)
    (work' : List ℤ) : Type 0 where
  pub refused : (code place : ℕ) → fed_meaning r ≡ refuses code place → (s' ≡ s) × ((out' ≡ out) × (work' ≡ work))
  pub runs : (n b : ℕ) → r ≡ Ok (record { taken = n; written = b })
      → Runs s.quantizer xs out work s'.quantizer (record { taken = n; written = b }) out' work'
  pub counts : (m : Model) → Stands s m
      → (fed_meaning r ≡ (outcome m (feed xs out (length work))).reply.answer)
      × Stands s' (outcome m (feed xs out (length work))).next
  pub does : (m : Model) → Holds s work m
      → (out' ≡ (outcome m (feed xs out (length work))).reply.output)
      × Holds s' work' (outcome m (feed xs out (length work))).next

-- Closing: it is lent nothing, and the buffer stays as it is.
pub record Closes (s : EncodeSession) (r : Result (Unit {0}) WbmpError) (s' : EncodeSession) : Type 0 where
  pub refused : (code place : ℕ) → closed_meaning r ≡ refuses code place → s' ≡ s
  pub counts : (m : Model) → Stands s m
      → (closed_meaning r ≡ (outcome m close).reply.answer) × Stands s' (outcome m close).next
  pub does : (m : Model) (work : List ℤ) → Holds s work m → Holds s' work (outcome m close).next

-- ---- what can be asked of a session

-- whether it is closed, of every session, and so of every machine that it stands for
pub record TellsClosed (s : EncodeSession) (r : Bool) : Type 0 where
  pub is : r ≡ not s.live
  pub does : (m : Model) → Stands s m → r ≡ not m.live

-- how many frames are done, open or closed
pub record TellsFrames (s : EncodeSession) (r : ℕ) : Type 0 where
  pub does : (m : Model) → Stands s m → r ≡ frames_done m
