-- What the timed lists of calls, and whole making and writing, promise.
use Rattle.std.specs.Prelude.{ℕ, ◌≡◌, Bool, true, false, List, [], leb, ℤ, length, None}
use Rattle.error.specs.Choice.{if}
use Rattle.error.specs.Answer.{Answer, gives, refuses, code_of}
use Rattle.ext.specs.Kinds.{longest_fields}
use Rattle.image.specs.declared.PixelFormat.{PixelFormat}
use Rattle.image.specs.declared.PixelFormat.TheVariants.{MonoBlack, MonoWhite}
use Rattle.options.specs.Limits.{Decoding}
use Rattle.options.specs.Defaults.{defaults, with_format}
use Rattle.options.specs.declared.EncodeOptions.{EncodeOptions}
use Rattle.options.specs.declared.Quantize.{Quantize}
use Rattle.options.specs.declared.Quantize.TheVariants.{Threshold, Dither}
use Rattle.quantize.specs.Internal.Turn.{state_of}
use Rattle.encoder.specs.Make.{Makes}
use Rattle.encoder.specs.Write.{file_of_planes}
use Rattle.encode_session.specs.Model as Making
use Rattle.encode_session.specs.declared.EncodeSession.{EncodeSession}
use Rattle.decode_session.specs.Model as Reading
use Rattle.decode_session.specs.declared.DecodeSession.{DecodeSession}
use Rattle.replay.specs.Calls.{named}
use Rattle.replay.specs.Encode as Encode
use Rattle.replay.specs.Decode as Decode
use Rattle.options.specs.Defaults.{made_frames}

-- ---- settings

abbrev pub format_of : Bool → PixelFormat
format_of true = MonoWhite
format_of false = MonoBlack

-- the default settings of reading, in the asked format
abbrev pub asked : Bool → Decoding
asked inverted = with_format (format_of inverted) defaults

abbrev pub rule_of : Bool → Quantize
rule_of true = Dither
rule_of false = Threshold 128

-- the default settings of making, with the asked rule
abbrev pub rule : Bool → EncodeOptions
rule dithered = record { quantize = rule_of dithered; ext = None; strict = false }

-- ---- a list of calls on a reading session

-- the machine at the start: closed where the extension buffer is too short
abbrev pub reading_from : Bool → ℕ → Reading.Model
reading_from inverted ext = let m = Reading.opened (asked inverted) in if (leb longest_fields ext) m (Reading.shut m)

-- so many calls are made, with their replies in every lent byte
pub record ReadsList (inverted : Bool) (numbers file out ext answers : List ℕ) (r : ℕ) (out' ext' answers' : List ℕ) : Type 0 where
  pub last : DecodeSession
  pub shows : let m = reading_from inverted (length ext) in
      let cs = named numbers (length file) (length out) (length ext) (length answers) in
      Decode.RepliesAs m (Decode.calls_of m cs file out ext) out ext answers r last out' ext' answers'

-- ---- a list of calls on a making session

abbrev pub started_by : Answer (List ℕ) → Making.Model → Making.Model
started_by (gives head) m = m
started_by (refuses code place) m = Making.shut m

-- the machine at the start, without fields: closed where opening is refused
abbrev pub making_from : ℕ → ℕ → Bool → ℕ → Making.Model
making_from width height dithered work =
    let a = Making.opening (rule dithered) width height [] [] in started_by (Making.header a work) (Making.opened a)

-- so many calls are made, with their replies in every lent byte, and the work buffer is altered only by carries: it ends with what the
-- running machine keeps, from the numbers found and the opened session's
pub record MakesBy (m : Making.Model) (cs : List Making.Call) (work : List ℤ) (out answers : List ℕ) (r : ℕ) (work' : List ℤ)
    (out' answers' : List ℕ) : Type 0 where
  pub last : EncodeSession
  pub counts : Encode.AnswersAs m cs answers r last answers'
  pub shows : Encode.WritesAs m cs out last out' work'
  pub leaves : Encode.Leaves m (Making.finally m cs) work work'
  pub first : EncodeSession
  pub keeps : work' ≡ (Encode.kept_from m cs (state_of first.quantizer.place work)).carry.kept

pub record MakesList (width height : ℕ) (dithered : Bool) (numbers gray : List ℕ) (work : List ℤ) (out answers : List ℕ) (r : ℕ)
    (work' : List ℤ) (out' answers' : List ℕ) : Type 0 where
  pub does : let cs = named numbers (length gray) (length out) (length work) (length answers) in
      MakesBy (making_from width height dithered (length work)) (Encode.calls_of cs gray out) work out answers r work' out' answers'

-- ---- whole making and writing, without fields

pub record MadeWhole (width height count : ℕ) (dithered : Bool) (gray out : List ℕ) (work : List ℤ) (r : ℕ) (out' : List ℕ)
    (work' : List ℤ) : Type 0 where
  pub told : Answer ℕ
  pub code : r ≡ code_of told
  pub makes : Makes made_frames (rule dithered) width height count gray [] [] out work told out' work'

abbrev pub planes_file : Bool → ℕ → ℕ → ℕ → ℕ → List ℕ → Answer (List ℕ)
planes_file inverted width height count stride planes =
    file_of_planes made_frames (rule false) (format_of inverted) width height count stride planes [] []
