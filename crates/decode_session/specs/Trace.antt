-- Lists of calls (document 01, "Lists"): "Each gets the session that the last call returned; a feeding call, unless 30, an earlier refusal
-- or 28 answers it, also gets the .. extension buffer as left".
use Rattle.std.specs.Prelude.{ℕ, ◌+◌, ◌≤◌, ◌≡◌, Bool, true, false, ◌||◌, List, [], ◌∷◌, ◌++◌, eqb, length, take, drop, Result}
use Rattle.error.specs.Choice.{if}
use Rattle.error.specs.Answer.{Answer, gives, refuses}
use Rattle.error.specs.declared.Fed.{Fed}
use Rattle.error.specs.declared.WbmpError.{WbmpError}
use Rattle.decode_session.specs.Model.{Call, feed, close, Told, took, frames, Reply}
use Rattle.decode_session.specs.Session.{fed_meaning, closed_meaning, Feeds, Closes}
use Rattle.decode_session.specs.declared.DecodeSession.{DecodeSession}

-- calls from a session and an extension buffer on, what they reply, and the session and the buffer at the end
pub data Trace : DecodeSession → List ℕ → List Call → List Reply → DecodeSession → List ℕ → Type 0 where
  none : {s : DecodeSession} {ext : List ℕ} → Trace s ext [] [] s ext
  -- with the buffer as left
  fed : {s next s' : DecodeSession} {piece out out' ext ext' end : List ℕ} {r : Result Fed WbmpError} {cs : List Call} {rs : List Reply}
      → Feeds s piece out ext r next out' ext' → Trace next ext' cs rs s' end
      → Trace s ext (feed piece out ext ∷ cs) (record { answer = fed_meaning r; output = out'; extension = ext' } ∷ rs) s' end
  -- a refused call that leaves its buffer as it was, as 30, an earlier refusal and 28 do, may be lent any
  refused : {s next s' : DecodeSession} {piece out out' ext any end : List ℕ} {r : Result Fed WbmpError} {cs : List Call} {rs : List Reply}
      {code place : ℕ}
      → Feeds s piece out any r next out' any → fed_meaning r ≡ refuses code place → Trace next ext cs rs s' end
      → Trace s ext (feed piece out any ∷ cs) (record { answer = fed_meaning r; output = out'; extension = any } ∷ rs) s' end
  shut : {s next s' : DecodeSession} {ext end : List ℕ} {r : Result ℕ WbmpError} {cs : List Call} {rs : List Reply}
      → Closes s r next → Trace next ext cs rs s' end
      → Trace s ext (close ∷ cs) (record { answer = closed_meaning r; output = []; extension = [] } ∷ rs) s' end

-- the bytes that a reply says were written, and those of all replies, joined (document 01: the joined outputs)
abbrev pub bytes_of : Answer Told → List ℕ → List ℕ
bytes_of (gives (took n b)) out = take b out
bytes_of (gives (frames n)) out = []
bytes_of (refuses code place) out = []

unfoldable pub joined : List Reply → List ℕ
joined [] = []
joined (r ∷ rs) = bytes_of r.answer r.output ++ joined rs

-- how many bytes a call took
abbrev pub took_of : Answer Told → ℕ
took_of (gives (took n b)) = n
took_of (gives (frames n)) = 0
took_of (refuses code place) = 0

-- it met a refusal of the file: not 28, and 30 cannot come before closing
abbrev pub is_met : Answer Told → Bool
is_met (gives t) = false
is_met (refuses code place) = if (eqb code 28) false true

-- A cut of a file (document 01, "Lists"): "each piece is the next part of what isn't taken, and closing comes once all is taken or a
-- refusal of the file met". `at` bytes are taken, and `met` says whether a refusal was met; the last answer is the closing's.
pub data Cut : List ℕ → ℕ → Bool → List Call → List Reply → Answer Told → Type 0 where
  part : {file out ext : List ℕ} {at : ℕ} {met : Bool} {cs : List Call} {r : Reply} {rs : List Reply} {a : Answer Told} (size : ℕ)
      → Cut file (at + took_of r.answer) (met || is_met r.answer) cs rs a
      → Cut file at met (feed (take size (drop at file)) out ext ∷ cs) (r ∷ rs) a
  taken : {file : List ℕ} {at : ℕ} {met : Bool} {r : Reply} → length file ≤ at → Cut file at met (close ∷ []) (r ∷ []) r.answer
  after_refusal : {file : List ℕ} {at : ℕ} {r : Reply} → Cut file at true (close ∷ []) (r ∷ []) r.answer
