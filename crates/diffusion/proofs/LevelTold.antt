-- A byte of eight samples that are black and white, as a row of their own.
-- Assumes nothing.
use Prim.Native.Nat.{ℕ, ◌+◌, ◌*◌}
use mathlib.Core.Path.{◌≡◌, ap, ◌∙◌}
use mathlib.Core.Bool.{Bool, true}
use mathlib.Core.List.{List}
use native.Mathlib.Omega.{arith}
use lib.IntN.{ℤ}
use lib.ListN.{drop, get_or, get_or-append}
use Rattle.rules.specs.Bits.{upto, appended}
use Rattle.rules.specs.Packed.{byte_at}
use Rattle.rules.specs.Internal.Kernels.{threshold_bit}
use Rattle.rules.specs.Internal.Planes.{PlainRow}
use Rattle.rules.proofs.DigitsAppended.{appended-ext}
use Rattle.rules.proofs.PlainRowWritten.{row_plain, row_written}
use Rattle.rules.proofs.UptoList.{upto-at, length-upto}
use Rattle.diffusion.specs.Internal.RowByRow.{AllNone}
use Rattle.diffusion.specs.Internal.Flow.{LevelByte}
use Rattle.diffusion.proofs.RowBytes.{byte-whole}

module _ (gray out out' : List ℕ) (r : Bool) (p : PlainRow 8 gray out r out') (e : r ≡ true) where
  abbrev d : ℕ → ℕ
  d = threshold_bit 128 gray

  told : get_or out' 0 0 ≡ appended 0 d 8
  told =
      ap (λ (l : List ℕ). get_or l 0 0) (row_written p e)
      ∙ get_or-append (upto 1 (byte_at 8 d)) (drop 1 out) 0 0 (omega (arith, length-upto (byte_at 8 d) 1))
      ∙ upto-at (byte_at 8 d) 0 1 0 (omega arith)
      ∙ byte-whole 8 d 0 (omega arith)
      ∙ appended-ext 0 (λ i. d (8 * 0 + i)) d 8 (λ i l. let k : 8 * 0 + i ≡ i = omega arith in ap d k)

  pub level-told : (right : ℕ) (sums : List ℤ) → right ≡ 56 → AllNone sums → LevelByte right gray sums (get_or out' 0 0)
  level-told right sums h s = record { right_is = h; level = s; plain = row_plain p e; byte_is = told }
