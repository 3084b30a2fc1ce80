-- Lists of calls (document 01, "Lists"): "Each gets the session that the last call returned; a feeding call, unless 30, .. or 28 answers
-- it, also gets the work .. buffer as left".
use Rattle.std.specs.Prelude.{ℕ, ◌≡◌, List, [], ◌∷◌, ◌++◌, ℤ, length, take, Result}
use Rattle.error.specs.Answer.{Answer, gives, refuses}
use Rattle.error.specs.declared.Fed.{Fed}
use Rattle.error.specs.declared.WbmpError.{WbmpError}
use Rattle.encode_session.specs.Model.{Call, feed, close, Told, took, closed, Reply}
use Rattle.encode_session.specs.Session.{fed_meaning, closed_meaning, Feeds, Closes}
use Rattle.encode_session.specs.declared.EncodeSession.{EncodeSession}

-- calls from a session and a work buffer on, what they reply, and the session that the last one leaves
pub data Trace : EncodeSession → List ℤ → List Call → List Reply → EncodeSession → Type 0 where
  none : {s : EncodeSession} {work : List ℤ} → Trace s work [] [] s
  -- with the buffer as left
  fed : {s next s' : EncodeSession} {xs out out' : List ℕ} {work work' : List ℤ} {r : Result Fed WbmpError} {cs : List Call}
      {rs : List Reply}
      → Feeds s xs out work r next out' work' → Trace next work' cs rs s'
      → Trace s work (feed xs out (length work) ∷ cs) (record { answer = fed_meaning r; output = out' } ∷ rs) s'
  -- a call that is refused may be lent any buffer
  refused : {s next s' : EncodeSession} {xs out out' : List ℕ} {work any any' : List ℤ} {r : Result Fed WbmpError} {cs : List Call}
      {rs : List Reply} {code place : ℕ}
      → Feeds s xs out any r next out' any' → fed_meaning r ≡ refuses code place → Trace next work cs rs s'
      → Trace s work (feed xs out (length any) ∷ cs) (record { answer = fed_meaning r; output = out' } ∷ rs) s'
  shut : {s next s' : EncodeSession} {work : List ℤ} {r : Result (Unit {0}) WbmpError} {cs : List Call} {rs : List Reply}
      → Closes s r next → Trace next work cs rs s'
      → Trace s work (close ∷ cs) (record { answer = closed_meaning r; output = [] } ∷ rs) s'

-- how many samples a call took
abbrev pub took_of : Answer Told → ℕ
took_of (gives (took n b)) = n
took_of (gives closed) = 0
took_of (refuses code place) = 0

-- the bytes that a reply says were written, and those of all replies, joined
abbrev pub bytes_of : Answer Told → List ℕ → List ℕ
bytes_of (gives (took n b)) out = take b out
bytes_of (gives closed) out = []
bytes_of (refuses code place) out = []

unfoldable pub joined : List Reply → List ℕ
joined [] = []
joined (r ∷ rs) = bytes_of r.answer r.output ++ joined rs
