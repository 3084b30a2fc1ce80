-- What the functions of a turn and the tests at the entry of `run` ask and promise.
use Rattle.std.specs.Prelude.{ℕ, ◌+◌, ◌-◌, ◌*◌, ◌%◌, ◌^◌, ◌≤◌, ◌<◌, ◌≡◌, Bool, true, false, ◌⊎◌, List, ◌++◌, ℤ, length, take, drop, Option, Some, None}
use Rattle.options.specs.declared.Quantize.{Quantize}
use Rattle.options.specs.declared.Quantize.TheVariants.{Threshold, Dither, Ordered}
use Rattle.dither.specs.declared.dots.RowStart.{RowStart}
use Rattle.dither.specs.declared.entry.RowDots.{RowDots}
use Rattle.quantize.specs.declared.turn.Place.{Place}
use Rattle.rules.specs.Rule.{Rule, threshold, dither, ordered, known_rule, enough_work, rule_named, rule_given}
use Rattle.quantize.specs.Finished.{Setting}
use Rattle.quantize.specs.Internal.Machine.{MachineState}
use Rattle.quantize.specs.Internal.Place.{At}
use Rattle.rules.specs.Internal.Kernels.{Packs}
use Rattle.dither.specs.Internal.Kernels.{Dots, carry_of}
use Rattle.dither.specs.Internal.Row.{Bytes}

-- samples can be taken: the rule is known, and the work buffer long enough
pub record Served (rule : Quantize) (w work : ℕ) : Type 0 where
  pub known : known_rule rule ≡ true
  pub room : enough_work (rule_given (rule_named rule)) w work ≡ true

-- the machine's state, from the numbers that the code keeps
abbrev pub state_of : Place → List ℤ → MachineState
state_of p work = record { begun = p.begun; carry = carry_of p.corner work }

-- where the next samples go
abbrev pub row_start : ℕ → Place → RowStart
row_start w p = record { width = w; y = p.row; column = p.column }

-- the rule that the code's values stand for
abbrev pub rule_of : Quantize → List ℕ → Rule
rule_of (Threshold t) table = threshold t
rule_of Dither table = dither
rule_of (Ordered side) table = ordered side (take (side * side) table)

pub record Sound (rule : Quantize) (w h row column begun corner work : ℕ) : Type 0 where
  pub in_row : column < w
  pub in_frame : row < h
  pub corner_small : corner ≤ 256
  pub begun_small : begun < 2 ^ (column % 8)
  pub served : Served rule w work

pub record CanTake (rule : Quantize) (w h row column begun corner work : ℕ) (r : Bool) : Type 0 where
  pub yes : r ≡ true → Sound rule w h row column begun corner work
  pub no : r ≡ false → Sound rule w h row column begun corner work → ⊥

-- r whole bytes of the row, not its last, are written at once
pub record Wholes (w column samples room r : ℕ) : Type 0 where
  pub there : 8 * r ≤ samples
  pub fits : r ≤ room
  pub in_row : column + 8 * r < w
  pub aligned : 0 < r → column % 8 ≡ 0

-- r samples go into the begun byte
pub record SamplesForByte (w column samples room r : ℕ) : Type 0 where
  pub there : r ≤ samples
  pub in_row : column + r ≤ w
  pub in_byte : column % 8 + r ≤ 8
  pub fits : room ≡ 0 → (column + r < w) × (column % 8 + r < 8)
  pub all : r ≡ 0 → (samples ≡ 0) ⊎ ((room ≡ 0) × ((column + 1 ≡ w) ⊎ (column % 8 ≡ 7)))

pub record Dotting (rule : Quantize) (w column n begun corner work : ℕ) : Type 0 where
  pub some : 0 < n
  pub within : column + n ≤ w
  pub packs : Packs begun n
  pub small : corner ≤ 256
  pub fits : w < 2 ^ 64
  pub served : Served rule w work

abbrev pub Dotted : Quantize → List ℕ → ℕ → ℕ → ℕ → List ℕ → ℕ → ℕ → List ℤ → RowDots → List ℤ → Type 0
Dotted rule table w y x gray begun corner work r work' = Dots (rule_of rule table) w y x gray begun corner work r.digits r.corner work'

-- m samples more, after which the begun byte has these digits
pub record Advancing (w h frames row column m digits : ℕ) : Type 0 where
  pub some : 0 < m
  pub left : 0 < frames
  pub in_row : column + m ≤ w
  pub in_byte : column % 8 + m ≤ 8
  pub in_frame : row < h
  pub high : h < 2 ^ 64
  pub digits_small : digits < 2 ^ (column % 8 + m)

-- they end the row or the byte: it is written, its digits first, and none is begun
pub record ByteEnded (w column m digits byte begun : ℕ) : Type 0 where
  pub ends : (w ≤ column + m) ⊎ (8 ≤ column % 8 + m)
  pub byte_is : byte ≡ digits * 2 ^ (8 - (column % 8 + m))
  pub begun_is : begun ≡ 0

-- the byte goes on
pub record ByteGoesOn (w column m digits begun : ℕ) : Type 0 where
  pub in_row : column + m < w
  pub in_byte : column % 8 + m < 8
  pub begun_is : begun ≡ digits

-- the place p' after them, where n were taken before, and the byte, if they end it
pub record AdvancesPlace (w h frames row column m digits : ℕ) (byte : Option ℕ) (p' : Place) : Type 0 where
  pub in_row : p'.column < w
  pub in_frame : p'.row < h
  pub begun_small : p'.begun < 2 ^ (p'.column % 8)
  pub ended : (b : ℕ) → byte ≡ Some b → ByteEnded w column m digits b p'.begun
  pub goes : byte ≡ None → ByteGoesOn w column m digits p'.begun
  pub moves : (s : Setting) (n : ℕ) → s.width ≡ w → s.height ≡ h → At s n frames row column → At s (n + m) p'.frames p'.row p'.column

abbrev pub Advances : ℕ → ℕ → Place → ℕ → ℕ → Option ℕ → Place → Type 0
Advances w h p m digits byte p' = AdvancesPlace w h p.frames p.row p.column m digits byte p' × (p'.corner ≡ p.corner)

-- n samples, which end no later than the begun byte
pub record Taking (rule : Quantize) (w h : ℕ) (p : Place) (n work : ℕ) : Type 0 where
  pub dotting : Dotting rule w p.column n p.begun p.corner work
  pub left : 0 < p.frames
  pub in_byte : p.column % 8 + n ≤ 8
  pub in_frame : p.row < h
  pub high : h < 2 ^ 64
  pub begun_small : p.begun < 2 ^ (p.column % 8)

pub record Takes (rule : Quantize) (table : List ℕ) (w h : ℕ) (p : Place) (gray : List ℕ) (work : List ℤ) (byte : Option ℕ) (p' : Place)
    (work' : List ℤ) : Type 0 where
  -- the digits of the begun byte after them
  pub digits : ℕ
  pub dotted : Dotted rule table w p.row p.column gray p.begun p.corner work
      (record { digits = digits; corner = p'.corner }) work'
  pub advances : AdvancesPlace w h p.frames p.row p.column (length gray) digits byte p'

-- so many bytes, one after the other, of the rule that the code's values stand for, with any table
abbrev pub Fills : Quantize → ℕ → ℕ → ℕ → List ℕ → ℕ → List ℤ → ℕ → List ℕ → ℕ → List ℤ → Type 0
Fills rule w y x samples corner work k bytes corner' work' =
    (table : List ℕ) → Bytes (rule_of rule table) w y x samples corner work k bytes corner' work'

-- the row goes on
pub record RowFilling (rule : Quantize) (w : ℕ) (p : Place) (work : ℕ) : Type 0 where
  pub in_row : p.column < w
  pub small : p.corner ≤ 256
  pub served : Served rule w work

-- so many columns on, with this corner
abbrev pub onwards : Place → ℕ → ℕ → Place
onwards p k corner = record { frames = p.frames; row = p.row; column = p.column + k; begun = p.begun; corner = corner }

-- whole bytes stand at the output's front, and the place is p'
pub record RowFilled (rule : Quantize) (w : ℕ) (p : Place) (samples out : List ℕ) (work : List ℤ) (count : ℕ) (p' : Place)
    (out' : List ℕ) (work' : List ℤ) : Type 0 where
  pub wholes : Wholes w p.column (length samples) (length out) count
  pub bytes : List ℕ
  pub fills : Fills rule w p.row p.column samples p.corner work count bytes p'.corner work'
  pub stored : out' ≡ bytes ++ drop count out
  pub place : p' ≡ onwards p (8 * count) p'.corner
