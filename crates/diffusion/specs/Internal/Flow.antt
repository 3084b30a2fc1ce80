-- What the functions promise that dither the dots of a row one after the other. What they hand on is in a `Flow`.
use Rattle.std.specs.Prelude.{ℕ, zero, suc, ◌+◌, ◌-◌, ◌*◌, ◌/◌, ◌<◌, ◌≤◌, ◌≡◌, List, ℤ, pos, nat_abs, length, get_or, take}
use Rattle.rules.specs.Bits.{upto, appended}
use Rattle.rules.specs.Packed.{byte_at}
use Rattle.rules.specs.Internal.Kernels.{threshold_bit}
use Rattle.rules.specs.Internal.Row.{Plain}
use Rattle.diffusion.specs.declared.row.Flow.{Flow}
use Rattle.diffusion.specs.Internal.Sums.{part_of, rest_of, handed_right, rest_by, rest_before, handed_down, sums_of, Sums}
use Rattle.diffusion.specs.Internal.Rows.{gray_of, dot_by}
use Rattle.diffusion.specs.Internal.RowByRow.{AllNone}

-- the parts that a residual hands down, as digits to the base 256
abbrev pub parts_of : ℕ → ℕ
parts_of b = part_of 3 b + 256 * part_of 5 b + 65536 * part_of 1 b

-- those of no residual: 24, 40 and 8
abbrev pub none_down : ℕ
none_down = 534552

-- a sum of the work buffer, and a flow that a dot can follow
pub record DotLent (f : Flow) (sum : ℤ) : Type 0 where
  pub right_small : f.right ≤ 112
  pub digits_small : f.digits < 65536
  pub sum_is : sum ≡ pos (nat_abs sum)
  pub sum_small : nat_abs sum ≤ 144

-- the flow after a dot whose value is held as v
pub record DotPassed (f : Flow) (v : ℕ) (r : Flow) : Type 0 where
  pub right_is : r.right ≡ part_of 7 (rest_of v)
  pub down_is : r.down ≡ f.down / 256 + parts_of (rest_of v)
  pub unstirred : r.stirred ≡ 0 → (f.stirred ≡ 0) × (parts_of (rest_of v) ≡ none_down)
  pub digits_is : r.digits ≡ f.digits * 2 + v / 256

-- of the sum for the column on the left of x below: the parts of the dots before x
unfoldable pub owed : (ℕ → ℕ) → (ℕ → ℕ) → ℕ → ℕ
owed gray sums zero = 0
owed gray sums (suc x) = part_of 1 (rest_before gray sums x) + part_of 5 (rest_by gray sums x)

-- a residual whose parts are those of none
pub record Still (b : ℕ) : Type 0 where
  pub one : part_of 1 b ≡ 8
  pub three : part_of 3 b ≡ 24
  pub five : part_of 5 b ≡ 40

-- after x dots of a row to which these sums were handed down
pub record RowAt (gray : List ℕ) (old : List ℤ) (x : ℕ) (f : Flow) (work : List ℤ) : Type 0 where
  pub bytes : (k : ℕ) → gray_of gray k < 256
  pub given : Sums (length gray) old
  pub in_row : x ≤ length gray
  pub long : length work ≡ length old
  pub right_is : f.right ≡ handed_right (gray_of gray) (sums_of old) x
  pub down_is : f.down / 256 ≡ owed (gray_of gray) (sums_of old) x + 256 * part_of 1 (rest_before (gray_of gray) (sums_of old) x)
  pub handed : (k : ℕ) → k + 1 < x → get_or work k (pos 0) ≡ pos (handed_down (length gray) (gray_of gray) (sums_of old) k)
  pub ahead : (k : ℕ) → x ≤ k → get_or work k (pos 0) ≡ get_or old k (pos 0)
  pub still : f.stirred ≡ 0 → (k : ℕ) → k < x → Still (rest_by (gray_of gray) (sums_of old) k)

-- there is a row of which the dots of the columns x to `end` come next; they go into one byte
pub record DotsLent (gray : List ℕ) (x end : ℕ) (f : Flow) (work : List ℤ) : Type 0 where
  pub old : List ℤ
  pub at : RowAt gray old x f work
  pub kept : length gray ≤ length work
  pub order : x ≤ end
  pub one_byte : end ≤ x + 8
  pub in_row : end ≤ length gray

-- the dots of the columns x to `end` are made, and their digits
pub record DotsPassed (gray : List ℕ) (old : List ℤ) (x end : ℕ) (r : Flow) (work' : List ℤ) : Type 0 where
  pub at : RowAt gray old end r work'
  pub digits_is : r.digits ≡ appended 0 (λ i. dot_by gray (sums_of old) (x + i)) (end - x)

-- the first eight samples are black and white, nothing is handed to them, and their dots are those of the byte
pub record LevelByte (right : ℕ) (gray : List ℕ) (sums : List ℤ) (byte : ℕ) : Type 0 where
  pub right_is : right ≡ 56
  pub level : AllNone sums
  pub plain : Plain gray 0 8
  pub byte_is : byte ≡ appended 0 (threshold_bit 128 gray) 8

-- the row's first n bytes, of eight dots each
pub record BytesPassed (gray : List ℕ) (old : List ℤ) (n room : ℕ) (r : Flow) (out' : List ℕ) (work' : List ℤ) : Type 0 where
  pub at : RowAt gray old (8 * n) r work'
  pub out_long : length out' ≡ room
  pub written : take n out' ≡ upto n (byte_at (length gray) (dot_by gray (sums_of old)))
