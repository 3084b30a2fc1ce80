-- The three rules (document 01: Threshold, Dither, Ordered rule), and the dots of a scan under each.
use Rattle.std.specs.Prelude.{ℕ, ◌*◌, Bool, true, false, List, leb}
use Rattle.rules.specs.Diffusion.{Direction, to_right, Scan, white, value_at}
use Rattle.rules.specs.Ordered.{bound, cell, numbers, exponent, known_side}
use Rattle.error.specs.Choice.{if}
use Rattle.error.specs.Answer.{Answer, gives, refuses}
use Rattle.options.specs.declared.EncodeOptions.{EncodeOptions}
use Rattle.options.specs.declared.Quantize.{Quantize}
use Rattle.options.specs.declared.Quantize.TheVariants.{Threshold, Dither, Ordered}

-- a rule; an ordered one has its side and a table of side × side numbers, row by row
pub data Rule : Type 0 where
  threshold : ℕ → Rule
  dither : Rule
  ordered : ℕ → List ℕ → Rule

-- every row runs to the right
abbrev pub rightwards : ℕ → Direction
rightwards y = to_right

-- the dot at column x of row y, in rows of w: true is white
unfoldable pub dot : Rule → ℕ → Scan → ℕ → ℕ → Bool
dot (threshold t) w scan x y = leb t (scan x y)
dot dither w scan x y = white (value_at rightwards w scan x y)
dot (ordered side table) w scan x y = leb (bound side (cell side table x y)) (scan x y)

-- the rule that a setting names, where that is a known one
abbrev pub meaning : Quantize → Rule
meaning (Threshold t) = threshold t
meaning Dither = dither
meaning (Ordered side) = ordered side (numbers (exponent side))

abbrev pub known_rule : Quantize → Bool
known_rule (Threshold t) = true
known_rule Dither = true
known_rule (Ordered side) = known_side side

-- the rule keeps carries in a work buffer
abbrev pub carries : Rule → Bool
carries (threshold t) = false
carries dither = true
carries (ordered side table) = false

-- a work buffer is long enough: carries need 2 × width numbers
abbrev pub enough_work : Rule → ℕ → ℕ → Bool
enough_work rule w work = if (carries rule) (leb (2 * w) work) true

-- the rule that a setting asks for: 29 for an "unknown rule or side", place 0
abbrev pub rule_named : Quantize → Answer Rule
rule_named setting = if (known_rule setting) (gives (meaning setting)) (refuses 29 0)

-- the rule that the settings of making ask for
abbrev pub rule_asked : EncodeOptions → Answer Rule
rule_asked o = rule_named o.quantize

-- the rule that is given; where none is, nothing is made, and this one, which keeps no carries, stands for it
abbrev pub rule_given : Answer Rule → Rule
rule_given (gives rule) = rule
rule_given (refuses code place) = threshold 0
