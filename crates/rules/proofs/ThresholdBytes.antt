-- The threshold rule's bytes, eight samples each.
-- Assumes nothing.
use Prim.Native.Nat.{ℕ, ◌+◌, ◌*◌, ◌≤◌}
use mathlib.Core.Path.{◌≡◌, sym, ap}
use mathlib.Core.List.{List}
use native.Mathlib.Nat.{zero-add}
use lib.Dec.{leb}
use lib.ListN.{length}
use Rattle.rules.specs.Bits.{bit, digits, appended}
use Rattle.rules.specs.Internal.Kernels.{threshold_bit, threshold_from}
use Rattle.rules.proofs.DigitsAppended.{appended-ext, appended-split}
use Rattle.rules.proofs.ListPiece.{piece, piece-length, piece-at}

module _ (t : ℕ) (gray : List ℕ) where
  -- a byte of dots after others
  pub byte_more : (begun byte n : ℕ) → n ≡ 8 → byte ≡ digits (threshold_from t gray 0) 8
      → begun * 256 + byte ≡ appended begun (threshold_bit t gray) n
  byte_more begun byte n e h =
      let f : digits (threshold_from t gray 0) 8 ≡ digits (threshold_bit t gray) 8 =
      appended-ext 0 (threshold_from t gray 0) (threshold_bit t gray) 8 (λ i _. ap (threshold_bit t gray) (zero-add i)) in
      rw (e, h, f) (sym (appended-split begun (threshold_bit t gray) 8))

  -- the dots of m samples from an index on
  pub digits-piece : (at m : ℕ) → at + m ≤ length gray
      → digits (threshold_from t gray at) m ≡ appended 0 (threshold_bit t (piece gray at m)) (length (piece gray at m))
  digits-piece at m h =
      rw (piece-length gray at m h)
      (appended-ext 0 (threshold_from t gray at) (threshold_bit t (piece gray at m)) m
      (λ i l. ap (λ (g : ℕ). bit (leb t g)) (piece-at gray at m i l)))
