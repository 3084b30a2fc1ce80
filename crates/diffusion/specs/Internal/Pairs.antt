-- What the functions promise that dither rows of two samples.
use Rattle.std.specs.Prelude.{ℕ, zero, suc, ◌%◌, ◌/◌, ◌≡◌, [], ◌∷◌}
use Rattle.diffusion.specs.declared.pairs.PairRow.{PairRow}
use Rattle.diffusion.specs.Internal.Sums.{none, value_by, handed_down}
use Rattle.diffusion.specs.Internal.Rows.{row_of}

-- two numbers by column
unfoldable pub either : ℕ → ℕ → ℕ → ℕ
either left right zero = left
either left right (suc x) = right

-- two samples are black and white, and nothing is handed to them
pub record LevelPair (first second left right : ℕ) : Type 0 where
  pub left_is : left ≡ none
  pub right_is : right ≡ none
  pub first_plain : first % 255 ≡ 0
  pub second_plain : second % 255 ≡ 0

-- the byte of a row of two samples and the sums that it hands down, from those that are handed to it
pub record PairDithered (first second left right : ℕ) (r : PairRow) : Type 0 where
  pub byte_is : r.byte ∷ [] ≡ row_of 2 (λ x. value_by (either first second) (either left right) x / 256)
  pub left_is : r.left ≡ handed_down 2 (either first second) (either left right) 0
  pub right_is : r.right ≡ handed_down 2 (either first second) (either left right) 1
