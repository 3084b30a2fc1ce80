-- A run of calls on a making session: what the plain machine replies to the calls that the numbers name.
use Rattle.std.specs.Prelude.{ℕ, ◌≡◌, false, List, [], ◌∷◌, ℤ, length, take, drop, Result, Ok, Err}
use Rattle.error.specs.Answer.{Answer, gives, refuses}
use Rattle.rules.specs.Rule.{carries}
use Rattle.error.specs.declared.Fed.{Fed}
use Rattle.error.specs.declared.WbmpError.{WbmpError}
use Rattle.quantize.specs.Internal.Machine.{MachineState, carried}
use Rattle.quantize.specs.Internal.Turn.{state_of}
use Rattle.encode_session.specs.Model.{setting_of, Model, Call, feed, close, Told, took, closed, Reply, outcome, replies, finally}
use Rattle.encode_session.specs.Session.{Stands, Holds, Closes}
use Rattle.encode_session.specs.Trace.{took_of}
use Rattle.encode_session.specs.declared.EncodeSession.{EncodeSession}
use Rattle.replay.specs.declared.call.Named.{Named}
use Rattle.replay.specs.declared.call.Named.TheVariants.{Close, Feed}
use Rattle.replay.specs.Calls.{named, room_of, concat_map, over, Spares}

-- the three numbers that tell an answer
abbrev pub numbers_of : Answer Told → List ℕ
numbers_of (gives (took n b)) = 0 ∷ n ∷ b ∷ []
numbers_of (gives closed) = 0 ∷ 0 ∷ 0 ∷ []
numbers_of (refuses code place) = code ∷ place ∷ 0 ∷ []

abbrev pub told : Reply → List ℕ
told r = numbers_of r.answer

abbrev pub output : Reply → List ℕ
output r = r.output

-- a named call, over the samples and the output that is left to lend
abbrev pub call_of : Named → List ℕ → List ℕ → Call
call_of Close samples out = close
call_of (Feed p) samples out = feed (take p.size (drop p.start samples)) (take p.room out) p.lent

-- the calls that are made
unfoldable pub calls_of : List Named → List ℕ → List ℕ → List Call
calls_of [] samples out = []
calls_of (c ∷ cs) samples out = call_of c samples out ∷ calls_of cs samples (drop (room_of c) out)

-- what the running machine keeps after a call, and call by call: what the samples taken leave it, so a refused call leaves it all
abbrev pub kept_by : Model → Call → MachineState → MachineState
kept_by m (feed xs out work) st =
    carried (setting_of m.opening) (length m.samples) st xs (took_of (outcome m (feed xs out work)).reply.answer)
kept_by m close st = st

unfoldable pub kept_from : Model → List Call → MachineState → MachineState
kept_from m [] st = st
kept_from m (c ∷ cs) st = kept_from (outcome m c).next cs (kept_by m c st)

-- ---- the contract

-- how many calls the machine replies to, what it answers, and the session after them
pub record AnswersAs (m : Model) (cs : List Call) (answers : List ℕ) (n : ℕ) (s' : EncodeSession) (answers' : List ℕ) : Type 0 where
  pub calls : n ≡ length (replies m cs)
  pub answered : answers' ≡ over (concat_map told (replies m cs)) answers
  pub stands : Stands s' (finally m cs)

-- what it writes, and the work buffer after it
pub record WritesAs (m : Model) (cs : List Call) (out : List ℕ) (s' : EncodeSession) (out' : List ℕ) (work' : List ℤ) : Type 0 where
  pub outputs : out' ≡ over (concat_map output (replies m cs)) out
  pub holds : Holds s' work' (finally m cs)

-- What calls leave of the work buffer: it is as before where they take no sample, as where each is refused or the session is closed, and
-- under a rule that keeps no carries; behind `width` numbers it always is.
pub record Leaves (m after : Model) (work work' : List ℤ) : Type 0 where
  pub quiet : length after.samples ≡ length m.samples → work' ≡ work
  pub spared : carries (setting_of m.opening).rule ≡ false → work' ≡ work
  pub beyond : drop m.opening.width work' ≡ drop m.opening.width work

-- A run of the named calls. Of a session that stands for a model, answers and counts are the model's, and the work buffer ends with the
-- numbers that the running machine keeps, call by call, from those found in it; no more of it is altered than `Leaves` allows. The outputs
-- are the model's too where the buffer is as the last call left it. What stands behind the parts that are lent is as before for every
-- session.
pub record RunsCalls (s : EncodeSession) (cs : List Named) (samples : List ℕ) (work : List ℤ) (out answers : List ℕ) (n : ℕ)
    (s' : EncodeSession) (work' : List ℤ) (out' answers' : List ℕ) : Type 0 where
  pub counts : (m : Model) → Stands s m → AnswersAs m (calls_of cs samples out) answers n s' answers'
  pub keeps : (m : Model) → Stands s m → work' ≡ (kept_from m (calls_of cs samples out) (state_of s.quantizer.place work)).carry.kept
  pub leaves : (m : Model) → Stands s m → Leaves m (finally m (calls_of cs samples out)) work work'
  pub does : (m : Model) → Holds s work m → WritesAs m (calls_of cs samples out) out s' out' work'
  pub spares : Spares cs n out answers work out' answers' work'

abbrev pub Replays : EncodeSession → List ℕ → List ℕ → List ℤ → List ℕ → List ℕ → ℕ → EncodeSession → List ℤ → List ℕ → List ℕ → Type 0
Replays s numbers samples work out answers n s' work' out' answers' =
    RunsCalls s (named numbers (length samples) (length out) (length work) (length answers)) samples work out answers n s' work' out'
    answers'

-- ---- a closing call, with its answer as that of feeding

-- closing takes nothing
abbrev pub taken_by : Result (Unit {0}) WbmpError → Result Fed WbmpError
taken_by (Ok u) = Ok (record { taken = 0; written = 0 })
taken_by (Err e) = Err e

pub record Closing (s : EncodeSession) (r : Result Fed WbmpError) (s' : EncodeSession) : Type 0 where
  pub answer : Result (Unit {0}) WbmpError
  pub is : r ≡ taken_by answer
  pub does : Closes s answer s'
