-- What a `Quantizer` stands for, and what `new` and `run` promise.
use Rattle.std.specs.Prelude.{ℕ, ◌+◌, ◌/◌, ◌%◌, ◌^◌, ◌≤◌, ◌<◌, ◌≡◌, Bool, true, false, ◌&&◌, List, [], ◌++◌, ltb, eqb, ℤ, pos, length, get_or, take, drop}
use Rattle.error.specs.Choice.{if}
use Rattle.error.specs.Answer.{gives}
use Rattle.error.specs.declared.Fed.{Fed}
use Rattle.options.specs.declared.Quantize.{Quantize}
use Rattle.quantize.specs.declared.engine.Quantizer.{Quantizer}
use Rattle.quantize.specs.declared.engine.Spot.{Spot}
use Rattle.rules.specs.Diffusion.{Direction, Scan, on_left, above, residual_at}
use Rattle.rules.specs.Rule.{Rule, threshold, dither, ordered, rightwards, known_rule, carries, enough_work, rule_named, rule_given}
use Rattle.quantize.specs.Internal.Turn.{Served, state_of, rule_of}
use Rattle.quantize.specs.Finished.{Setting, count, frame, dot_of, newly, takes, setting}
use Rattle.dither.specs.Internal.Carry.{Carry, clamp}
use Rattle.quantize.specs.Internal.Machine.{MachineState, carried, machine_bytes}
use Rattle.quantize.specs.Internal.Place.{At, Begun}

-- ---- what a quantizer stands for

-- its own numbers, after n samples
pub record QuantizerAt (q : Quantizer) (s : Setting) (n : ℕ) : Type 0 where
  pub rule : s.rule ≡ rule_of q.rule q.table
  pub knows : known_rule q.rule ≡ true
  pub width : s.width ≡ q.width
  pub height : s.height ≡ q.height
  pub at : At s n q.place.frames q.place.row q.place.column
  pub corner_small : q.place.corner ≤ 256
  pub begun_small : q.place.begun < 2 ^ (q.place.column % 8)

-- the residuals of rows that run in these directions, where the next sample goes to column x of row y of the scan and row y, if it is
-- begun, runs to the right: up to there the row's residuals, from there on those above
pub record Diffusion (dirs : ℕ → Direction) (w : ℕ) (scan : Scan) (x y : ℕ) (c : Carry) : Type 0 where
  pub done : (k : ℕ) → k < x → clamp (get_or c.kept k (pos 0)) ≡ residual_at dirs w scan k y
  pub ahead : (k : ℕ) → x ≤ k → k < w → 0 < y → clamp (get_or c.kept k (pos 0)) ≡ above dirs w scan y k
  pub corner : 0 < x → c.corner ≡ on_left (above dirs w scan y) x

-- the dots of the byte that the samples xs have begun
abbrev pub BeginsByte : Setting → List ℕ → MachineState → Type 0
BeginsByte s xs st = Begun s.width (dot_of s xs) (length xs) st.begun

-- the residuals after the samples xs
abbrev pub DiffusedBy : (ℕ → Direction) → Setting → List ℕ → Carry → Type 0
DiffusedBy dirs s xs c =
    Diffusion dirs s.width (frame s.width s.height xs (length xs / s.width / s.height)) (length xs % s.width)
    (length xs / s.width % s.height) c

-- what is kept after the samples xs, the rule's say: at a frame's start, and under the other rules, any residuals
abbrev pub KeptAfter : Rule → Setting → List ℕ → MachineState → Type 0
KeptAfter (threshold t) s xs st = BeginsByte s xs st
KeptAfter dither s xs st = BeginsByte s xs st × DiffusedBy rightwards s xs st.carry
KeptAfter (ordered side table) s xs st = BeginsByte s xs st

-- the quantizer and the work buffer are as the samples xs leave them
pub record QuantizerAfter (q : Quantizer) (work : List ℤ) (s : Setting) (xs : List ℕ) : Type 0 where
  pub stands : QuantizerAt q s (length xs)
  pub keeps : KeptAfter s.rule s xs (state_of q.place work)

-- ---- the contracts

-- a table for the rule: its side's numbers stand at the front
abbrev pub Tabled : Quantize → List ℕ → Type 0
Tabled asked table = (rule : Rule) → rule_named asked ≡ gives rule → rule_of asked table ≡ rule

-- a new quantizer, whatever stands in a work buffer
pub record NewQuantizer (asked : Quantize) (w h frames : ℕ) (q : Quantizer) : Type 0 where
  pub rule_is : q.rule ≡ asked
  pub width_is : q.width ≡ w
  pub height_is : q.height ≡ h
  pub frames_are : q.place.frames ≡ frames
  pub row_is : q.place.row ≡ 0
  pub column_is : q.place.column ≡ 0
  pub holds : (rule : Rule) → rule_named asked ≡ gives rule → 0 < w → 0 < h → (work : List ℤ)
      → QuantizerAfter q work (setting rule w h frames) []

-- samples can be taken: there are dots, the side is known, and the work buffer is long enough
pub record Ready (rule : Quantize) (w h work : ℕ) : Type 0 where
  pub wide : 0 < w
  pub high : 0 < h
  pub served : Served rule w work

-- nothing is taken and nothing is altered
pub record Idles (q : Quantizer) (out : List ℕ) (work : List ℤ) (q' : Quantizer) (r : Fed) (out' : List ℕ) (work' : List ℤ) : Type 0 where
  pub same : q' ≡ q
  pub taken : r.taken ≡ 0
  pub written : r.written ≡ 0
  pub out_same : out' ≡ out
  pub work_same : work' ≡ work

-- how many samples are taken and bytes written after n samples, for every work buffer
pub record Counts (s : Setting) (n samples room work : ℕ) (q' : Quantizer) (r : Fed) : Type 0 where
  pub taken : r.taken ≡ if (enough_work s.rule s.width work) (takes s n samples room) 0
  pub written : count s (n + r.taken) ≡ count s n + r.written
  pub stands : QuantizerAt q' s (n + r.taken)

-- the bytes are those that the running machine emits from the numbers found, and the numbers left are those that it keeps
pub record Machines (q : Quantizer) (s : Setting) (n : ℕ) (samples out : List ℕ) (work : List ℤ) (q' : Quantizer) (r : Fed)
    (out' : List ℕ) (work' : List ℤ) : Type 0 where
  pub bytes : out' ≡ machine_bytes s n (state_of q.place work) samples r.taken ++ drop r.written out
  pub keeps : carried s n (state_of q.place work) samples r.taken ≡ state_of q'.place work'

-- the bytes are the definition's, where the buffer is as the last call left it
pub record Defined (s : Setting) (xs samples out : List ℕ) (q' : Quantizer) (r : Fed) (out' : List ℕ) (work' : List ℤ) : Type 0 where
  pub bytes : out' ≡ newly s xs (xs ++ take r.taken samples) ++ drop r.written out
  pub holds : QuantizerAfter q' work' s (xs ++ take r.taken samples)

-- the quantizer q' after a run: what was taken and written, and the lent buffers
pub record Runs (q : Quantizer) (samples out : List ℕ) (work : List ℤ) (q' : Quantizer) (r : Fed) (out' : List ℕ) (work' : List ℤ) :
    Type 0 where
  pub taken : r.taken ≤ length samples
  pub written : r.written ≤ length out
  pub past : drop r.written out' ≡ drop r.written out
  pub beyond : drop q.width work' ≡ drop q.width work
  pub spared : carries (rule_given (rule_named q.rule)) ≡ false → work' ≡ work
  pub idle : (Ready q.rule q.width q.height (length work) → ⊥) → Idles q out work q' r out' work'
  pub counts : (s : Setting) (n : ℕ) → QuantizerAt q s n → Counts s n (length samples) (length out) (length work) q' r
  pub machine : (s : Setting) (n : ℕ) → QuantizerAt q s n → Machines q s n samples out work q' r out' work'
  pub defined : (s : Setting) (xs : List ℕ) → QuantizerAfter q work s xs → Defined s xs samples out q' r out' work'

-- where the next sample goes
abbrev pub spot_of : Quantizer → Spot
spot_of q = record { frames = q.place.frames; row = q.place.row; column = q.place.column }

-- how many frames are not full
abbrev pub frames_left : Quantizer → ℕ
frames_left q = q.place.frames

-- whether a work buffer of so many numbers is long enough
abbrev pub room_for : Quantizer → ℕ → Bool
room_for q work = enough_work (rule_given (rule_named q.rule)) q.width work

-- whether it stands behind whole frames, and at least one, where it was made for so many
abbrev pub behind_frames : Quantizer → ℕ → Bool
behind_frames q frames = eqb q.place.row 0 && (eqb q.place.column 0 && ltb q.place.frames frames)
