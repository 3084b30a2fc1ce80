-- What the functions promise that lead from row to row of a plane.
use Rattle.std.specs.Prelude.{ℕ, ◌*◌, ◌^◌, ◌<◌, ◌≤◌, ◌≡◌, Bool, true, false, List, ℤ, pos, length, get_or, take, drop}
use Rattle.error.specs.Choice.{if}
use Rattle.image.specs.Geometry.{row_bytes}
use Rattle.rules.specs.Internal.Kernels.{threshold_bit}
use Rattle.rules.specs.Internal.Planes.{plane, scan_of, dither_bit}
use Rattle.rules.specs.Internal.Row.{Plain}
use Rattle.diffusion.specs.Internal.Sums.{none, handed_down, sums_of, Sums, Handed}
use Rattle.diffusion.specs.Internal.Rows.{gray_of, dot_by, row_of}

-- the sums handed to a row: nothing to a level one, and those of the work buffer otherwise
abbrev pub handed_to : Bool → List ℤ → ℕ → ℕ
handed_to level work x = if level none (sums_of work x)

-- these are sums that nothing was added to
abbrev pub AllNone : List ℤ → Type 0
AllNone sums = (x : ℕ) → x < length sums → get_or sums x (pos 0) ≡ pos none

-- a row's samples, room for its bytes, and a work buffer with its sums unless it is level
pub record RowGiven (level : Bool) (gray : List ℕ) (work : List ℤ) (out : ℕ) : Type 0 where
  pub some : 0 < length gray
  pub kept : length gray ≤ length work
  pub room : out ≡ row_bytes (length gray)
  pub sums : level ≡ false → Sums (length gray) work

-- r says that the row is level and black and white alone, and written; otherwise its sums stand in the work buffer
pub record RowBegun (level : Bool) (gray : List ℕ) (work : List ℤ) (r : Bool) (out' : List ℕ) (work' : List ℤ) : Type 0 where
  pub beyond : drop (length gray) work' ≡ drop (length gray) work
  pub even : r ≡ true → level ≡ true
  pub plain : r ≡ true → Plain gray 0 (length gray)
  pub written : r ≡ true → out' ≡ row_of (length gray) (threshold_bit 128 gray)
  pub sums : r ≡ false → Sums (length gray) work'
  pub same : r ≡ false → (x : ℕ) → x < length gray → sums_of work' x ≡ handed_to level work x

-- the row's bytes, and what it hands down; r says that this is nothing
pub record RowNext (level : Bool) (gray : List ℕ) (work : List ℤ) (r : Bool) (out' : List ℕ) (work' : List ℤ) : Type 0 where
  pub bytes : out' ≡ row_of (length gray) (dot_by gray (handed_to level work))
  pub down : (x : ℕ) → x < length gray → handed_to r work' x ≡ handed_down (length gray) (gray_of gray) (handed_to level work) x
  pub sums : r ≡ false → Sums (length gray) work'
  pub beyond : drop (length gray) work' ≡ drop (length gray) work

-- there are samples and room for a plane of some columns, whose number fits 32 bits
pub record PlaneLent (w h samples out : ℕ) : Type 0 where
  pub wide : 0 < w
  pub small : w < 2 ^ 32
  pub there : w * h ≤ samples
  pub room : h * row_bytes w ≤ out

-- the first y of h dithered rows stand at the output's front, and what stands behind all of them is as it was
pub record RowsWritten (w h : ℕ) (gray out : List ℕ) (y : ℕ) (out' : List ℕ) : Type 0 where
  pub rows : take (y * row_bytes w) out' ≡ plane w y (dither_bit w gray)
  pub behind : drop (h * row_bytes w) out' ≡ drop (h * row_bytes w) out
  pub long : length out' ≡ length out

-- nothing is handed to row y, before which all are written
pub record PlainRows (w h : ℕ) (gray out : List ℕ) (y : ℕ) (out' : List ℕ) : Type 0 where
  pub most : y ≤ h
  pub level : Handed w (scan_of w gray) y (λ x. none)
  pub written : RowsWritten w h gray out y out'

abbrev pub RowsLeft : ℕ → ℕ → List ℕ → ℕ → List ℕ → Type 0
RowsLeft w h gray y out = PlainRows w h gray out y out
