-- The numbers of a side, and samples compared with them.
use Rattle.std.specs.Prelude.{ℕ, ◌+◌, ◌-◌, ◌*◌, ◌^◌, ◌<◌, ◌≡◌, true, List, ◌++◌, leb, get_or, replicate}
use Rattle.rules.specs.Bits.{bit}
use Rattle.rules.specs.Ordered.{number, numbers, bound, cell, known_side}
use Rattle.rules.specs.Internal.Kernels.{Packs}

abbrev pub ordered_bit : ℕ → List ℕ → ℕ → ℕ → List ℕ → ℕ → ℕ
ordered_bit side table y x gray i = bit (leb (bound side (cell side table (x + i) y)) (get_or gray i 0))

-- n samples from column x on are compared with the numbers of a known side
pub record Matching (side x n begun : ℕ) : Type 0 where
  pub packs : Packs begun n
  pub known : known_side side ≡ true
  pub fits : x + n < 2 ^ 64

-- r is the number for this side
pub record Cell (side x y r : ℕ) : Type 0 where
  pub small : r < side * side
  pub is : (k : ℕ) → side ≡ 2 ^ k → r ≡ number k x y

-- the numbers for the side 2 ^ k, row by row, at the front of 64, and zeros behind them
abbrev pub number_table : ℕ → List ℕ
number_table k = numbers k ++ replicate (64 - 2 ^ k * 2 ^ k) 0

abbrev pub Filled : ℕ → List ℕ → Type 0
Filled side table = (k : ℕ) → side ≡ 2 ^ k → table ≡ number_table k
