-- Reading in pieces (document 01, "Reading session" and "Lists": the plain machine, which "keeps only the opening's arguments, open or
-- closed, the .. bytes taken, joined in call order, and a met refusal").
use Rattle.std.specs.Prelude.{ℕ, Bool, true, false, List, [], ◌∷◌, ◌++◌, leb, length, take, drop}
use Rattle.std.proofs.lemmas.List.Edits.{sets}
use Rattle.error.specs.Choice.{if}
use Rattle.error.specs.Answer.{Answer, gives, refuses, bind, map, is_end}
use Rattle.ext.specs.Kinds.{longest_fields}
use Rattle.header.specs.Read.{Outline}
use Rattle.options.specs.Limits.{Decoding, settled, ceiling_of}
use Rattle.decoder.specs.Image.{image_settings, read_image}
use Rattle.decoder.specs.Frames.{frames_of}
use Rattle.decode_session.specs.Sequence.{sequence, most}
use Rattle.header_pieces.specs.Extension.{field_bytes}

-- a refusal of the file that a call has met: code and offset
pub data Met : Type 0 where
  nothing : Met
  met_at : ℕ → ℕ → Met

-- document 01: the plain machine
pub record Model : Type 0 where
  pub options : Decoding
  pub live : Bool
  pub bytes : List ℕ
  pub met : Met

abbrev pub opened : Decoding → Model
opened d = record { options = d; live = true; bytes = []; met = nothing }

-- the settings are tested, which refuses none, and then "Opening a reading gives 28", where the extension buffer is below 4,118
abbrev pub opening : Decoding → ℕ → Answer (Unit {0})
opening d extension = bind (settled d) (λ _. if (leb longest_fields extension) (gives tt) (refuses 28 0))

-- a call with what it is lent: a piece of the file, and the output and the extension buffer as they are before the call; closing is lent
-- none
pub data Call : Type 0 where
  feed : List ℕ → List ℕ → List ℕ → Call
  close : Call

-- what an accepted call answers: how many bytes it took and wrote, or the frame count
pub data Told : Type 0 where
  took : ℕ → ℕ → Told
  frames : ℕ → Told

-- the answer, and the output and the extension buffer as they are after the call
pub record Reply : Type 0 where
  pub answer : Answer Told
  pub output : List ℕ
  pub extension : List ℕ

-- "A call meets a refusal of the file if whole reading of the bytes taken and its piece, output enough, gives one other than 1, 6, 9, 13 or
-- 20"
abbrev pub met_by : Answer Outline → Met
met_by (gives h) = nothing
met_by (refuses code place) = if (is_end code) nothing (met_at code place)

abbrev pub meets : Model → List ℕ → Met
meets m piece = met_by (read_image m.options (m.bytes ++ piece))

-- "takes the most input bytes whose plane bytes fit the lent output"
abbrev pub takes : Model → List ℕ → ℕ → ℕ
takes m piece room = most (ceiling_of m.options) m.options m.bytes piece room (length piece)

-- the bytes taken with those of a piece
unfoldable pub grown : Model → List ℕ → ℕ → List ℕ
grown m piece room = m.bytes ++ take (takes m piece room) piece

-- the plane bytes among these, behind the earlier ones
unfoldable pub written : Model → List ℕ → ℕ → List ℕ
written m piece room =
    drop (length (sequence (ceiling_of m.options) m.options m.bytes))
    (sequence (ceiling_of m.options) m.options (grown m piece room))

-- a buffer with the extension bytes of a longer file stored behind those of the bytes taken
abbrev pub stored : Model → List ℕ → List ℕ → List ℕ
stored m longer buffer =
    let o = image_settings m.options.mode in
    let n = length (field_bytes o m.bytes) in
    sets buffer n (drop n (field_bytes o longer))

-- what a call comes to
pub record Outcome : Type 0 where
  pub reply : Reply
  pub next : Model

-- where neither 30, an earlier refusal nor 28 answers
abbrev pub fed_by : Model → List ℕ → List ℕ → List ℕ → Met → Outcome
fed_by m piece out ext nothing =
    let w = written m piece (length out) in
    record {
      reply = record {
        answer = gives (took (takes m piece (length out)) (length w));
        output = w ++ drop (length w) out;
        extension = stored m (grown m piece (length out)) ext;
      };
      next = record { options = m.options; live = true; bytes = grown m piece (length out); met = nothing };
    }
fed_by m piece out ext (met_at code place) =
    record {
      reply = record { answer = refuses code place; output = out; extension = stored m (m.bytes ++ piece) ext };
      next = record { options = m.options; live = true; bytes = m.bytes; met = met_at code place };
    }

-- nothing is altered
abbrev pub unaltered : Model → ℕ → ℕ → List ℕ → List ℕ → Outcome
unaltered m code place out ext = record { reply = record { answer = refuses code place; output = out; extension = ext }; next = m }

-- "Each session call tests 30, then a refusal met by an earlier call, then 28 for a buffer lent to it"
abbrev pub after_met : Model → List ℕ → List ℕ → List ℕ → Met → Outcome
after_met m piece out ext nothing =
    if (leb longest_fields (length ext)) (fed_by m piece out ext (meets m piece)) (unaltered m 28 0 out ext)
after_met m piece out ext (met_at code place) = unaltered m code place out ext

-- "Closing gives the frame count, without an unfinished extra frame, or 1, 6, 9, 13 or 20. A refused session repeats its refusal"
abbrev pub closing : Model → Met → Answer Told
closing m nothing = map frames (frames_of (ceiling_of m.options) m.options m.bytes)
closing m (met_at code place) = refuses code place

-- "Closing a reading session closes it, refused or not."
abbrev pub shut : Model → Model
shut m = record { options = m.options; live = false; bytes = m.bytes; met = m.met }

unfoldable pub outcome : Model → Call → Outcome
outcome m (feed piece out ext) = if m.live (after_met m piece out ext m.met) (unaltered m 30 0 out ext)
outcome m close =
    if m.live
    (record { reply = record { answer = closing m m.met; output = []; extension = [] }; next = shut m })
    (unaltered m 30 0 [] [])

unfoldable pub replies : Model → List Call → List Reply
replies m [] = []
replies m (c ∷ cs) = (outcome m c).reply ∷ replies (outcome m c).next cs

unfoldable pub finally : Model → List Call → Model
finally m [] = m
finally m (c ∷ cs) = finally (outcome m c).next cs
