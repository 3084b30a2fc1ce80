-- What the functions ask and promise that write whole bytes of a row at once.
use Rattle.std.specs.Prelude.{ℕ, zero, suc, ◌+◌, ◌-◌, ◌*◌, ◌≤◌, ◌<◌, ◌≡◌, List, [], ◌∷◌, ◌++◌, ℤ, pos, length, get_or, take, drop}
use Rattle.rules.specs.Rule.{Rule}
use Rattle.rules.specs.Internal.Row.{Plain}
use Rattle.dither.specs.declared.dots.Neighbours.{Neighbours}
use Rattle.dither.specs.Internal.Kernels.{Dots}

-- all numbers are 0
abbrev pub Clear : List ℤ → Type 0
Clear work = (i : ℕ) → i < length work → get_or work i (pos 0) ≡ pos 0

-- samples of row y are black or white, and the residuals next to them and the numbers above them are 0
pub record ResidualFree (y : ℕ) (near : Neighbours) (samples : List ℕ) (work : List ℤ) : Type 0 where
  pub below : 0 < y
  pub left_is : near.left ≡ 128
  pub corner_is : near.corner ≡ 128
  pub clear : Clear work
  pub plain : Plain samples 0 (length samples)

-- there are samples for so many bytes, which do not end the row, and a number of work for each column
pub record Filling (w x samples count corner work : ℕ) : Type 0 where
  pub there : 8 * count ≤ samples
  pub in_row : x + 8 * count < w
  pub room : w ≤ work
  pub small : corner ≤ 256

-- after bytes before, the byte of the eight samples from an index on, from column x of row y on
pub record ByteMore (rule : Rule) (w y x : ℕ) (samples : List ℕ) (from : ℕ) (Before : List ℕ → ℕ → List ℤ → Type 0) (bytes' : List ℕ)
    (corner' : ℕ) (work' : List ℤ) : Type 0 where
  pub bytes : List ℕ
  pub corner : ℕ
  pub work : List ℤ
  pub byte : ℕ
  pub before : Before bytes corner work
  pub dots : Dots rule w y x (take (from + 8 - from) (drop from samples)) 0 corner work byte corner' work'
  pub more : bytes' ≡ bytes ++ (byte ∷ [])

-- so many bytes, one after the other, and what is kept after them
unfoldable pub Bytes : Rule → ℕ → ℕ → ℕ → List ℕ → ℕ → List ℤ → ℕ → List ℕ → ℕ → List ℤ → Type 0
Bytes rule w y x samples corner work zero bytes' corner' work' = (bytes' ≡ []) × ((corner' ≡ corner) × (work' ≡ work))
Bytes rule w y x samples corner work (suc k) bytes' corner' work' =
    ByteMore rule w y (x + 8 * k) samples (8 * k) (Bytes rule w y x samples corner work k) bytes' corner' work'
