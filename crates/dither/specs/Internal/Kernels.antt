-- What the kernels ask and promise.
use Rattle.std.specs.Prelude.{ℕ, zero, suc, ◌+◌, ◌*◌, ◌≤◌, ◌<◌, ◌≡◌, List, ℤ, length, get_or}
use Rattle.std.proofs.Math.IntN.{sub_ℕ}
use Rattle.rules.specs.Bits.{bit, appended}
use Rattle.rules.specs.Diffusion.{part}
use Rattle.rules.specs.Rule.{Rule, dither}
use Rattle.rules.specs.Internal.Held.{Biased}
use Rattle.rules.specs.Internal.Kernels.{Packs}
use Rattle.dither.specs.declared.dots.Neighbours.{Neighbours}
use Rattle.dither.specs.declared.dots.DitheredDots.{DitheredDots}
use Rattle.dither.specs.declared.entry.RowDots.{RowDots}
use Rattle.dither.specs.Internal.Carry.{Carry, left_of, corner_of, over_of, machine_dot, next}

-- r - 8 k is k sixteenths of b - 128
pub record Parted (k b r : ℕ) : Type 0 where
  pub is : part k (sub_ℕ b 128) ≡ sub_ℕ r (8 * k)
  pub small : r ≤ 16 * k

-- above row y of w columns there are residuals for the first r columns, all or none: what is read above a row of so many is what is read
-- above row y
pub record Reaches (w y r : ℕ) : Type 0 where
  pub most : r ≤ w
  pub all : 0 < r → r ≡ w
  pub is : (kept : List ℤ) (x : ℕ) → over_of w y kept x ≡ over_of r 1 kept x

-- n holds the residuals next to column x of row y
pub record Near (w y x corner : ℕ) (work : List ℤ) (n : Neighbours) : Type 0 where
  pub left_is : Biased (left_of work x) n.left
  pub corner_is : Biased (corner_of (sub_ℕ corner 128) x) n.corner
  pub above_is : Biased (over_of w y work x) n.above

-- what the machine keeps after i of these samples of row y, from column x on, and the dot of sample i
unfoldable pub row_carry : Rule → ℕ → ℕ → ℕ → List ℕ → Carry → ℕ → Carry
row_carry rule w y x gray c zero = c
row_carry rule w y x gray c (suc i) = next rule w y (x + i) (get_or gray i 0) (row_carry rule w y x gray c i)

unfoldable pub row_bit : Rule → ℕ → ℕ → ℕ → List ℕ → Carry → ℕ → ℕ
row_bit rule w y x gray c i = bit (machine_dot rule w y (x + i) (get_or gray i 0) (row_carry rule w y x gray c i))

-- the machine's state, from the numbers that the code keeps
abbrev pub carry_of : ℕ → List ℤ → Carry
carry_of corner work = record { corner = sub_ℕ corner 128; kept = work }

-- the digits of `begun` and of the samples' dots, from column x of row y on, and what is kept after them
pub record Dots (rule : Rule) (w y x : ℕ) (gray : List ℕ) (begun corner : ℕ) (work : List ℤ) (dots corner' : ℕ)
    (work' : List ℤ) : Type 0 where
  pub digits : dots ≡ appended begun (row_bit rule w y x gray (carry_of corner work)) (length gray)
  pub carry : row_carry rule w y x gray (carry_of corner work) (length gray) ≡ carry_of corner' work'
  pub small : corner' ≤ 256

pub record Diffusing (w x n begun corner work : ℕ) : Type 0 where
  pub some : 0 < n
  pub packs : Packs begun n
  pub within : x + n ≤ w
  pub room : w ≤ work
  pub small : corner ≤ 256

pub record Diffused (w y x : ℕ) (gray : List ℕ) (begun corner : ℕ) (work : List ℤ) (r : DitheredDots) (work' : List ℤ) : Type 0 where
  pub dots : Dots dither w y x gray begun corner work r.digits r.next.corner work'
  pub near : Near w y (x + length gray) r.next.corner work' r.next

abbrev pub Diffuses : ℕ → ℕ → ℕ → List ℕ → ℕ → ℕ → List ℤ → RowDots → List ℤ → Type 0
Diffuses w y x gray begun corner work r work' = Dots dither w y x gray begun corner work r.digits r.corner work'
