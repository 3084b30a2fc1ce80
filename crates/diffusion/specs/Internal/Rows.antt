-- What the functions promise that dither a row, and a plane, by sums.
use Rattle.std.specs.Prelude.{ℕ, ◌+◌, ◌*◌, ◌/◌, ◌<◌, ◌≤◌, ◌≡◌, Bool, true, false, ◌&&◌, List, ◌++◌, leb, ℤ, pos, length, get_or, drop}
use Rattle.error.specs.Choice.{if}
use Rattle.image.specs.Geometry.{row_bytes}
use Rattle.rules.specs.Bits.{upto}
use Rattle.rules.specs.Packed.{byte_at}
use Rattle.rules.specs.Internal.Planes.{plane, dither_bit}
use Rattle.diffusion.specs.Internal.Sums.{part_of, rest_of, value_by, handed_down, sums_of, Sums, Level}

-- a table has, for each value, 7 sixteenths of its residual
abbrev pub RightTable : List ℕ → Type 0
RightTable table = (v : ℕ) → v < 512 → get_or table v 0 ≡ part_of 7 (rest_of v)

-- another one has 3, 5 and 1 sixteenths, as digits to the base 256, the first one the lowest
abbrev pub DownTable : List ℕ → Type 0
DownTable table = (v : ℕ) → v < 512 → get_or table v 0 ≡ part_of 3 (rest_of v) + 256 * part_of 5 (rest_of v) + 65536 * part_of 1 (rest_of v)

-- the gray at a column of a row's samples
abbrev pub gray_of : List ℕ → ℕ → ℕ
gray_of gray x = get_or gray x 0

-- the dot at a column, from the row's samples and the sums handed down to it
abbrev pub dot_by : List ℕ → (ℕ → ℕ) → ℕ → ℕ
dot_by gray sums x = value_by (gray_of gray) sums x / 256

-- the bytes of one row, by column
abbrev pub row_of : ℕ → (ℕ → ℕ) → List ℕ
row_of w d = upto (row_bytes w) (byte_at w d)

-- a row's samples, a work buffer with its sums, and room for its bytes
pub record RowLent (gray : List ℕ) (work : List ℤ) (out : ℕ) : Type 0 where
  pub some : 0 < length gray
  pub kept : length gray ≤ length work
  pub room : out ≡ row_bytes (length gray)
  pub sums : Sums (length gray) work

-- the row's bytes, and the sums that it hands down in place of those that were handed to it; r says that it hands down nothing
pub record RowDithered (gray : List ℕ) (work : List ℤ) (r : Bool) (out' : List ℕ) (work' : List ℤ) : Type 0 where
  pub bytes : out' ≡ row_of (length gray) (dot_by gray (sums_of work))
  pub sums : (x : ℕ) → x < length gray → get_or work' x (pos 0) ≡ pos (handed_down (length gray) (gray_of gray) (sums_of work) x)
  pub beyond : drop (length gray) work' ≡ drop (length gray) work
  pub level : r ≡ true → Level (length gray) (handed_down (length gray) (gray_of gray) (sums_of work))

-- there are samples, room and numbers of work for a plane
abbrev pub served : ℕ → ℕ → ℕ → ℕ → ℕ → Bool
served w h samples out work = leb (w * h) samples && (leb (h * row_bytes w) out && leb w work)

-- the plane at the output's front where it is served, and otherwise the output as it was; of the work buffer the first w
-- numbers are free then
pub record DitherPlane (w h : ℕ) (gray out : List ℕ) (work : List ℤ) (out' : List ℕ) (work' : List ℤ) : Type 0 where
  pub written : out' ≡ if (served w h (length gray) (length out) (length work))
      (plane w h (dither_bit w gray) ++ drop (h * row_bytes w) out) out
  pub beyond : drop w work' ≡ drop w work
  pub unserved : served w h (length gray) (length out) (length work) ≡ false → work' ≡ work
