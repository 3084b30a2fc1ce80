-- What the private functions and `clear_ends` give.
use Rattle.std.specs.Prelude.{ℕ, zero, suc, ◌+◌, ◌-◌, ◌*◌, ◌<◌, ◌≡◌, List, leb, length, get_or, set, Option, Some, None}
use Rattle.std.specs.Int.Bits.{bit_and}
use Rattle.error.specs.Choice.{if}
use Rattle.image.specs.Geometry.{row_bytes, padding_bits}
use Rattle.image.specs.Rows.{clear_low, padded}

-- where the first bytes of row y start, if they are all among the bytes of a plane
abbrev pub row_start : ℕ → ℕ → ℕ → ℕ → Option ℕ
row_start bytes stride y count = if (leb (y * stride + count) bytes) (Some (y * stride)) None

-- a row whose last byte is masked
abbrev pub mask_last : ℕ → List ℕ → List ℕ
mask_last mask row = set row (length row - 1) (bit_and (get_or row (length row - 1) 0) mask)

-- a plane without gaps whose first rows have their padding cleared
unfoldable pub clear_rows : ℕ → ℕ → List ℕ → List ℕ
clear_rows width zero plane = plane
clear_rows width (suc y) plane =
    let last = y * row_bytes width + (row_bytes width - 1) in
    set (clear_rows width y plane) last (clear_low (padding_bits width) (get_or (clear_rows width y plane) last 0))

-- bytes of a plane without gaps, the first of which is byte `at`, before and after their padding is cleared
pub record Cleared (width at : ℕ) (old new : List ℕ) : Type 0 where
  pub same : length new ≡ length old
  pub byte : (j : ℕ) → j < length old → get_or new j 0 ≡ padded width (at + j) (get_or old j 0)
