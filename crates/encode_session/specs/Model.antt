-- Making in pieces (document 01, "Making session" and "Lists": the plain machine, which "keeps only the opening's arguments, open or
-- closed, the samples .. taken, joined in call order").
use Rattle.std.specs.Prelude.{ℕ, ◌*◌, ◌/◌, Bool, true, false, ◌||◌, List, [], ◌∷◌, ◌++◌, eqb, length, take, drop}
use Rattle.error.specs.Choice.{if}
use Rattle.error.specs.Answer.{Answer, gives, refuses, bind}
use Rattle.header.specs.Write.{ext_header}
use Rattle.options.specs.Defaults.{made_frames}
use Rattle.options.specs.declared.EncodeOptions.{EncodeOptions}
use Rattle.rules.specs.Rule.{enough_work, rule_asked, rule_given}
use Rattle.quantize.specs.Finished.{setting, Setting, takes, newly, whole_frames}

-- what a session is opened with; pairs of the fields are two lengths each, beside one text
pub record Opening : Type 0 where
  pub options : EncodeOptions
  pub width : ℕ
  pub height : ℕ
  pub text : List ℕ
  pub lengths : List ℕ

abbrev pub opening : EncodeOptions → ℕ → ℕ → List ℕ → List ℕ → Opening
opening o w h text lengths = record { options = o; width = w; height = h; text = text; lengths = lengths }

-- so many frames of its size at most, by the rule that it asks for
abbrev pub setting_of : Opening → Setting
setting_of a = setting (rule_given (rule_asked a.options)) a.width a.height made_frames

-- the work buffer, of so many numbers, is long enough
abbrev pub serves : Opening → ℕ → Bool
serves a work = enough_work (setting_of a).rule a.width work

-- "Opening writes the header", behind "8, .. 29, 28, .. fields"; 25 where it does not fit is `Emits`
unfoldable pub header : Opening → ℕ → Answer (List ℕ)
header a work =
    if (eqb a.width 0 || eqb a.height 0) (refuses 8 0)
    (bind (rule_asked a.options)
    (λ rule. if (enough_work rule a.width work)
    (ext_header a.options.strict a.width a.height a.options.ext a.text a.lengths)
    (refuses 28 0)))

-- document 01: the plain machine
pub record Model : Type 0 where
  pub opening : Opening
  pub live : Bool
  pub samples : List ℕ

abbrev pub opened : Opening → Model
opened a = record { opening = a; live = true; samples = [] }

-- a call with what it is lent: samples, the output as it is before the call, and so many numbers of work; closing is lent nothing
pub data Call : Type 0 where
  feed : List ℕ → List ℕ → ℕ → Call
  close : Call

-- what an accepted call answers: how many samples it took and bytes it wrote, or plain acceptance
pub data Told : Type 0 where
  took : ℕ → ℕ → Told
  closed : Told

-- the answer, and the output as it is after the call
pub record Reply : Type 0 where
  pub answer : Answer Told
  pub output : List ℕ

-- "the most samples whose finished bytes fit the lent output, none past 16 frames"
unfoldable pub taken : Model → List ℕ → ℕ → List ℕ
taken m xs room = take (takes (setting_of m.opening) (length m.samples) (length xs) room) xs

-- the bytes that these finish, behind those that the earlier ones finished
unfoldable pub written : Model → List ℕ → ℕ → List ℕ
written m xs room = newly (setting_of m.opening) m.samples (m.samples ++ taken m xs room)

-- the samples are whole frames, and at least one
abbrev pub is_whole : Model → Bool
is_whole m = whole_frames (setting_of m.opening) (length m.samples)

-- how many frames are done
abbrev pub frames_done : Model → ℕ
frames_done m = length m.samples / (m.opening.width * m.opening.height)

-- what a call comes to
pub record Outcome : Type 0 where
  pub reply : Reply
  pub next : Model

-- samples are taken
abbrev pub fed_by : Model → List ℕ → List ℕ → Outcome
fed_by m xs out =
    let t = taken m xs (length out) in
    let w = written m xs (length out) in
    record {
      reply = record { answer = gives (took (length t) (length w)); output = w ++ drop (length w) out };
      next = record { opening = m.opening; live = true; samples = m.samples ++ t };
    }

abbrev pub shut : Model → Model
shut m = record { opening = m.opening; live = false; samples = m.samples }

-- the session is closed
abbrev pub closed_by : Model → Outcome
closed_by m = record { reply = record { answer = gives closed; output = [] }; next = shut m }

-- nothing is altered
abbrev pub unaltered : Model → ℕ → List ℕ → Outcome
unaltered m code out = record { reply = record { answer = refuses code 0; output = out }; next = m }

-- "Each session call tests 30, then .. 28 for a buffer lent to it"; "Closing inside a frame or before the first one ends gives 22 and
-- leaves the session open; else it closes it"
unfoldable pub outcome : Model → Call → Outcome
outcome m (feed xs out work) =
    if m.live (if (serves m.opening work) (fed_by m xs out) (unaltered m 28 out)) (unaltered m 30 out)
outcome m close = if m.live (if (is_whole m) (closed_by m) (unaltered m 22 [])) (unaltered m 30 [])

unfoldable pub replies : Model → List Call → List Reply
replies m [] = []
replies m (c ∷ cs) = (outcome m c).reply ∷ replies (outcome m c).next cs

unfoldable pub finally : Model → List Call → Model
finally m [] = m
finally m (c ∷ cs) = finally (outcome m c).next cs
