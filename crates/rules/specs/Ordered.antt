-- The ordered rule (document 01: Ordered rule).
use Rattle.std.specs.Prelude.{ℕ, zero, suc, ◌+◌, ◌*◌, ◌/◌, ◌%◌, ◌^◌, List, eqb, get_or, Bool, ◌||◌}
use Rattle.error.specs.Choice.{if}
use Rattle.rules.specs.Bits.{upto}

-- what is added to 4 n in the quarter at column i and row j: upper left 0, upper right 2, lower left 3, lower right 1
abbrev pub quarter : ℕ → ℕ → ℕ
quarter zero zero = 0
quarter (suc i) zero = 2
quarter zero (suc j) = 3
quarter (suc i) (suc j) = 1

-- the number at column x and row y for the side 2 ^ k: side 1 holds 0, and a side's numbers give those of twice the side
unfoldable pub number : ℕ → ℕ → ℕ → ℕ
number zero x y = 0
number (suc k) x y = 4 * number k (x % 2 ^ k) (y % 2 ^ k) + quarter (x / 2 ^ k) (y / 2 ^ k)

-- the numbers for the side 2 ^ k, row by row
unfoldable pub numbers : ℕ → List ℕ
numbers k = upto (2 ^ k * 2 ^ k) (λ i. number k (i % 2 ^ k) (i / 2 ^ k))

-- the sides 2, 4 and 8 are 2 ^ 1, 2 ^ 2 and 2 ^ 3
abbrev pub exponent : ℕ → ℕ
exponent side = if (eqb side 2) 1 (if (eqb side 4) 2 3)

-- from which gray on the number n is white
unfoldable pub bound : ℕ → ℕ → ℕ
bound side n = (256 * n + 128) / (side * side)

-- the number of a table of side × side numbers, row by row, at a column and a row of the image
abbrev pub cell : ℕ → List ℕ → ℕ → ℕ → ℕ
cell side table x y = get_or table (side * (y % side) + x % side) 0

-- the sides of document 01
abbrev pub known_side : ℕ → Bool
known_side side = eqb side 2 || eqb side 4 || eqb side 8
