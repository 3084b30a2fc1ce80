-- The numbers that a row's part leaves alone.
-- Assumes nothing.
use Prim.Native.Nat.{ℕ, zero, suc, ◌+◌, ◌≤◌, ◌<◌}
use mathlib.Core.Path.{◌≡◌, refl, sym, ◌∙◌}
use mathlib.Core.Bool.{false}
use mathlib.Core.List.{List}
use native.Mathlib.Omega.{arith}
use lib.ListN.{length, get_or, drop, length-set}
use lib.Seq.{drop-set-lt}
use Rattle.rules.specs.Diffusion.{to_right, residual}
use Rattle.rules.specs.Rule.{Rule, threshold, dither, ordered, carries}
use Rattle.dither.specs.Internal.Carry.{Carry, value_of, diffused, next}
use Rattle.dither.specs.Internal.Kernels.{row_carry}
use Rattle.rules.proofs.EntryTold.{never}

next-beyond : (rule : Rule) (w y x g : ℕ) (c : Carry) (k : ℕ) → x < k → drop k (next rule w y x g c).kept ≡ drop k c.kept
unfolding next diffused
next-beyond (threshold t) w y x g c k h = refl
next-beyond dither w y x g c k h = drop-set-lt k c.kept x (residual (value_of to_right w y x g c)) h
next-beyond (ordered side table) w y x g c k h = refl

pub next-long : (rule : Rule) (w y x g : ℕ) (c : Carry) → length (next rule w y x g c).kept ≡ length c.kept
unfolding next diffused
next-long (threshold t) w y x g c = refl
next-long dither w y x g c = length-set c.kept x (residual (value_of to_right w y x g c))
next-long (ordered side table) w y x g c = refl

module _ (rule : Rule) (w y x : ℕ) (gray : List ℕ) (c : Carry) where
  pub row-beyond : (k i : ℕ) → x + i ≤ k → drop k (row_carry rule w y x gray c i).kept ≡ drop k c.kept
  unfolding row_carry
  row-beyond k zero h = refl
  row-beyond k (suc i) h =
      next-beyond rule w y (x + i) (get_or gray i 0) (row_carry rule w y x gray c i) k (omega arith) ∙ row-beyond k i (omega arith)

  pub row-long : (i : ℕ) → length (row_carry rule w y x gray c i).kept ≡ length c.kept
  unfolding row_carry
  row-long zero = refl
  row-long (suc i) = next-long rule w y (x + i) (get_or gray i 0) (row_carry rule w y x gray c i) ∙ row-long i

-- a rule without carries leaves them all
next-spared : (rule : Rule) (w y x g : ℕ) (c : Carry) → carries rule ≡ false → (next rule w y x g c).kept ≡ c.kept
unfolding next
next-spared (threshold t) w y x g c h = refl
next-spared dither w y x g c h = never (sym h)
next-spared (ordered side table) w y x g c h = refl

pub row-spared : (rule : Rule) (w y x : ℕ) (gray : List ℕ) (c : Carry) → carries rule ≡ false → (i : ℕ)
    → (row_carry rule w y x gray c i).kept ≡ c.kept
unfolding row_carry
row-spared rule w y x gray c h zero = refl
row-spared rule w y x gray c h (suc i) =
    next-spared rule w y (x + i) (get_or gray i 0) (row_carry rule w y x gray c i) h ∙ row-spared rule w y x gray c h i
