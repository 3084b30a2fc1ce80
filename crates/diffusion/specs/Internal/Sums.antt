-- Dithering by sums. For each column the sum of the three parts that the row above hands down to it is kept, so that a dot reads one
-- number and writes one.
-- Numbers are held shifted, so that none is below 0: k sixteenths of a residual plus 8 k, a sum of what is handed down plus 72, a
-- residual plus 128 and a value plus 128.
use Rattle.std.specs.Prelude.{ℕ, zero, suc, ◌+◌, ◌*◌, ◌/◌, ◌%◌, ◌<◌, ◌≤◌, ◌≡◌, List, ltb, ℤ, pos, nat_abs, ◌+ℤ◌, get_or}
use Rattle.std.proofs.Math.IntN.{sub_ℕ}
use Rattle.error.specs.Choice.{if}
use Rattle.rules.specs.Diffusion.{Scan, to_right, part, before, after, above}
use Rattle.rules.specs.Rule.{rightwards}

-- k sixteenths of the residual that is held as b
unfoldable pub part_of : ℕ → ℕ → ℕ
part_of k b = ((128 * k + 1) * b + 896) / 2048

-- the residual of the value that is held as v
unfoldable pub rest_of : ℕ → ℕ
rest_of v = v % 256 + v / 256

-- what a row hands to the dot at column x, from its gray and the sums handed down to it
unfoldable pub handed_right : (ℕ → ℕ) → (ℕ → ℕ) → ℕ → ℕ
handed_right gray sums zero = 56
handed_right gray sums (suc x) = part_of 7 (rest_of (gray x + sums x + handed_right gray sums x))

-- the value of the dot at column x, and its residual
unfoldable pub value_by : (ℕ → ℕ) → (ℕ → ℕ) → ℕ → ℕ
value_by gray sums x = gray x + sums x + handed_right gray sums x

unfoldable pub rest_by : (ℕ → ℕ) → (ℕ → ℕ) → ℕ → ℕ
rest_by gray sums x = rest_of (value_by gray sums x)

-- the residual on the left of column x and the one on its right, of w columns; none past an edge
unfoldable pub rest_before : (ℕ → ℕ) → (ℕ → ℕ) → ℕ → ℕ
rest_before gray sums zero = 128
rest_before gray sums (suc x) = rest_by gray sums x

unfoldable pub rest_after : ℕ → (ℕ → ℕ) → (ℕ → ℕ) → ℕ → ℕ
rest_after w gray sums x = if (ltb (suc x) w) (rest_by gray sums (suc x)) 128

-- the sum that the row hands down to column x
unfoldable pub handed_down : ℕ → (ℕ → ℕ) → (ℕ → ℕ) → ℕ → ℕ
handed_down w gray sums x = part_of 1 (rest_before gray sums x) + part_of 5 (rest_by gray sums x) + part_of 3 (rest_after w gray sums x)

-- the sum that nothing was added to
abbrev pub none : ℕ
none = 72

-- these are the sums handed down to row y, of w columns, by Floyd and Steinberg's residuals above it
abbrev pub Handed : ℕ → Scan → ℕ → (ℕ → ℕ) → Type 0
Handed w scan y sums =
    (x : ℕ) → x < w
    → sub_ℕ (sums x) none
    ≡ part 1 (before to_right w (above rightwards w scan y) x) +ℤ part 5 (above rightwards w scan y x)
    +ℤ part 3 (after to_right w (above rightwards w scan y) x)

-- the sums that a work buffer holds
abbrev pub sums_of : List ℤ → ℕ → ℕ
sums_of work x = nat_abs (get_or work x (pos 0))

-- its first w numbers are sums
pub record Sums (w : ℕ) (work : List ℤ) : Type 0 where
  pub is : (x : ℕ) → x < w → get_or work x (pos 0) ≡ pos (sums_of work x)
  pub small : (x : ℕ) → x < w → sums_of work x ≤ 144

-- nothing is handed down to the first w columns
abbrev pub Level : ℕ → (ℕ → ℕ) → Type 0
Level w sums = (x : ℕ) → x < w → sums x ≡ none
