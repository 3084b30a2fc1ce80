-- THE RANGE of the definition: every residual of a scan of bytes is within -128 .. 128, in whatever directions the rows run.
-- Assumes nothing.
use Prim.Native.Nat.{ℕ, zero, suc, ◌-◌, ◌≤◌, ◌<◌}
use mathlib.Core.Bool.{Bool, true, false}
use native.Mathlib.Omega.{arith}
use lib.Dec.{ltb}
use lib.IntN.{ℤ, pos, nat_abs}
use Rattle.error.specs.Choice.{if}
use Rattle.rules.specs.Diffusion.{Scan, Direction, to_right, to_left, residual, on_left, on_right, before, after, visited, value_from}
use Rattle.rules.specs.Diffusion.{handed, row_value, above, residual_at}
use Rattle.rules.specs.Rule.{rightwards}
use Rattle.dither.proofs.HeldRange.{Held, held, within, residual-held}

-- ---- one row, below a row within the range

module _ (w : ℕ) (row : ℕ → ℤ) (h : (k : ℕ) → Held (row k)) where
  left-held : (x : ℕ) → Held (on_left row x)
  left-held zero = held (pos 0) (omega arith)
  left-held (suc x) = h x

  right-held : (x : ℕ) → Held (on_right w row x)
  right-held x = go (ltb (suc x) w)
    where
      go : (t : Bool) → Held (if t (row (suc x)) (pos 0))
      go true = h (suc x)
      go false = held (pos 0) (omega arith)

  before-held : (d : Direction) (x : ℕ) → Held (before d w row x)
  before-held to_right x = left-held x
  before-held to_left x = right-held x

  after-held : (d : Direction) (x : ℕ) → Held (after d w row x)
  after-held to_right x = right-held x
  after-held to_left x = left-held x

  module _ (d e : Direction) (gray : ℕ → ℕ) (bytes : (x : ℕ) → gray x < 256) where
    from-held : (x : ℕ) (p : ℤ) → Held p → Held (residual (value_from e w gray row x p))
    unfolding value_from
    from-held x p k =
        residual-held (gray x) p (before e w row x) (row x) (after e w row x) (bytes x) k (before-held e x) (h x) (after-held e x)

    -- each dot after those that were visited before it
    pub handed-held : (k : ℕ) → Held (handed d e w gray row k)
    unfolding handed
    handed-held zero = held (pos 0) (omega arith)
    handed-held (suc k) = from-held (visited d w k) (handed d e w gray row k) (handed-held k)

    pub row-held : (x : ℕ) → Held (residual (row_value d e w gray row x))
    unfolding row_value
    row-held x = from-held x (handed d e w gray row (visited d w x)) (handed-held (visited d w x))

-- ---- all rows

module _ (dirs : ℕ → Direction) (w : ℕ) (scan : Scan) (bytes : (x y : ℕ) → scan x y < 256) where
  pub above-held : (y x : ℕ) → Held (above dirs w scan y x)
  unfolding above
  above-held zero x = held (pos 0) (omega arith)
  above-held (suc y) x = row-held w (above dirs w scan y) (above-held y) (dirs y) (dirs (y - 1)) (λ c. scan c y) (λ c. bytes c y) x

  pub residual-within : (x y : ℕ) → nat_abs (residual_at dirs w scan x y) ≤ 128
  residual-within x y = within (residual_at dirs w scan x y) (above-held (suc y) x)

-- an example: a white scan
white-within : nat_abs (residual_at rightwards 3 (λ x y. 255) 1 1) ≤ 128
white-within = residual-within rightwards 3 (λ x y. 255) (λ x y. omega arith) 1 1

-- an example: rows that run to the left
leftwards-within : nat_abs (residual_at (λ y. to_left) 3 (λ x y. 255) 1 1) ≤ 128
leftwards-within = residual-within (λ y. to_left) 3 (λ x y. 255) (λ x y. omega arith) 1 1
