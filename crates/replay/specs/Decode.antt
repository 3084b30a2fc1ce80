-- A run of calls on a reading session: what the plain machine replies to the calls that the numbers name.
use Rattle.std.specs.Prelude.{ℕ, ◌≡◌, List, [], ◌∷◌, length, take, drop, Result, Ok, Err}
use Rattle.error.specs.Answer.{Answer, gives, refuses}
use Rattle.error.specs.declared.Fed.{Fed}
use Rattle.error.specs.declared.WbmpError.{WbmpError}
use Rattle.decode_session.specs.Model.{Model, Call, feed, close, Told, took, frames, Reply, outcome, replies, finally}
use Rattle.decode_session.specs.Session.{Stands, Closes}
use Rattle.decode_session.specs.declared.DecodeSession.{DecodeSession}
use Rattle.replay.specs.declared.call.Named.{Named}
use Rattle.replay.specs.declared.call.Named.TheVariants.{Close, Feed}
use Rattle.replay.specs.Calls.{named, room_of, concat_map, over, Spares}

-- the three numbers that tell an answer
abbrev pub numbers_of : Answer Told → List ℕ
numbers_of (gives (took n b)) = 0 ∷ n ∷ b ∷ []
numbers_of (gives (frames n)) = 0 ∷ n ∷ 0 ∷ []
numbers_of (refuses code place) = code ∷ place ∷ 0 ∷ []

abbrev pub told : Reply → List ℕ
told r = numbers_of r.answer

abbrev pub output : Reply → List ℕ
output r = r.output

-- an extension buffer after replies: each call leaves the front that it was lent
unfoldable pub left : List Reply → List ℕ → List ℕ
left [] ext = ext
left (r ∷ rs) ext = left rs (over r.extension ext)

-- a named call, over the file, the output that is left to lend, and the extension buffer as the calls before left it
abbrev pub call_of : Named → List ℕ → List ℕ → List ℕ → Call
call_of Close file out ext = close
call_of (Feed p) file out ext = feed (take p.size (drop p.start file)) (take p.room out) (take p.lent ext)

-- the calls that are made
unfoldable pub calls_of : Model → List Named → List ℕ → List ℕ → List ℕ → List Call
calls_of m [] file out ext = []
calls_of m (c ∷ cs) file out ext =
    let o = outcome m (call_of c file out ext) in
    call_of c file out ext ∷ calls_of o.next cs file (drop (room_of c) out) (over o.reply.extension ext)

-- ---- the contract

-- what the replies of the machine say, and the session after them
pub record RepliesAs (m : Model) (cs : List Call) (out ext answers : List ℕ) (n : ℕ) (s' : DecodeSession)
    (out' ext' answers' : List ℕ) : Type 0 where
  pub calls : n ≡ length (replies m cs)
  pub outputs : out' ≡ over (concat_map output (replies m cs)) out
  pub extension : ext' ≡ left (replies m cs) ext
  pub answered : answers' ≡ over (concat_map told (replies m cs)) answers
  pub stands : Stands s' (finally m cs)

-- a run of the named calls on a session that stands for a model, and on any
pub record RunsCalls (s : DecodeSession) (cs : List Named) (file out ext answers : List ℕ) (n : ℕ) (s' : DecodeSession)
    (out' ext' answers' : List ℕ) : Type 0 where
  pub does : (m : Model) → Stands s m → RepliesAs m (calls_of m cs file out ext) out ext answers n s' out' ext' answers'
  pub spares : Spares cs n out answers ext out' answers' ext'

abbrev pub Replays : DecodeSession → List ℕ → List ℕ → List ℕ → List ℕ → List ℕ → ℕ → DecodeSession → List ℕ → List ℕ → List ℕ → Type 0
Replays s numbers file out ext answers n s' out' ext' answers' =
    RunsCalls s (named numbers (length file) (length out) (length ext) (length answers)) file out ext answers n s' out' ext' answers'

-- ---- a closing call, with its answer as that of feeding

-- closing takes the frame count
abbrev pub taken_by : Result ℕ WbmpError → Result Fed WbmpError
taken_by (Ok n) = Ok (record { taken = n; written = 0 })
taken_by (Err e) = Err e

pub record Closing (s : DecodeSession) (r : Result Fed WbmpError) (s' : DecodeSession) : Type 0 where
  pub answer : Result ℕ WbmpError
  pub is : r ≡ taken_by answer
  pub does : Closes s answer s'
