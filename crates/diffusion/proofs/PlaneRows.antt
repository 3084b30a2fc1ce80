-- The bytes of a plane row by row.
-- Assumes nothing.
use Prim.Native.Nat.{ℕ, suc, ◌+◌, ◌*◌, ◌<◌}
use mathlib.Core.Path.{◌≡◌, sym, ap, ◌∙◌}
use mathlib.Core.List.{List, [], ◌∷◌, ◌++◌, append-nil}
use native.Mathlib.Nat.{suc-mul, one-mul}
use native.Mathlib.Omega.{arith}
use lib.ListN.{length, drop}
use lib.Seq.{drop-length}
use Rattle.image.specs.Geometry.{row_bytes}
use Rattle.rules.specs.Bits.{upto, appended}
use Rattle.rules.specs.Packed.{padded_bit, byte_at}
use Rattle.rules.specs.Internal.Planes.{plane}
use Rattle.rules.proofs.PlaneBytes.{byte-same, first-row}
use Rattle.rules.proofs.UptoList.{length-upto, upto-ext, upto_add}
use Rattle.diffusion.specs.Internal.Rows.{row_of}

module _ (w : ℕ) where
  pub row_of-length : (d : ℕ → ℕ) → length (row_of w d) ≡ row_bytes w
  row_of-length d = length-upto (byte_at w d) (row_bytes w)

  -- a row's bytes depend on its dots only
  pub row_same : (d e : ℕ → ℕ) → ((c : ℕ) → c < w → d c ≡ e c) → row_of w d ≡ row_of w e
  row_same d e h =
      upto-ext (byte_at w d) (byte_at w e) (row_bytes w)
      (λ b l.
      sym (first-row w d b)
      ∙ byte-same w d e 0 0 (λ c k. let z : 0 * w + c ≡ c = omega arith in rw z (h c k)) b l
      ∙ first-row w e b)

  -- the first y + 1 rows of a plane are the first y and one more
  pub rows_more : (d : ℕ → ℕ) (y : ℕ) → plane w (suc y) d ≡ plane w y d ++ row_of w (λ c. d (y * w + c))
  rows_more d y =
      let e : ℕ → ℕ = λ c. d (y * w + c) in
      ap (λ (n : ℕ). upto n (byte_at w d)) (suc-mul y (row_bytes w))
      ∙ upto_add (byte_at w d) (y * row_bytes w) (row_bytes w)
      ∙ ap (λ (l : List ℕ). plane w y d ++ l) (
      upto-ext (λ b. byte_at w d (y * row_bytes w + b)) (byte_at w e) (row_bytes w)
      (λ b l.
      byte-same w d e y 0 (λ c k. let z : 0 * w + c ≡ c = omega arith in ap (λ (n : ℕ). d (y * w + n)) (sym z)) b l ∙ first-row w e b))

  -- one row is a plane
  pub row-alone : (d : ℕ → ℕ) (out out' : List ℕ) → length out ≡ row_bytes w → out' ≡ plane w 1 d ++ drop (row_bytes w) out → out' ≡ row_of w d
  row-alone d out out' n e =
      e
      ∙ ap (λ (k : ℕ). plane w 1 d ++ drop k out) (sym n)
      ∙ ap (λ (l : List ℕ). plane w 1 d ++ l) (drop-length out)
      ∙ append-nil (plane w 1 d)
      ∙ ap (λ (k : ℕ). upto k (byte_at w d)) (one-mul (row_bytes w))

-- a row of one dot
pub row_one : (d : ℕ → ℕ) → row_of 1 d ≡ 128 * d 0 ∷ []
unfolding upto byte_at padded_bit appended
row_one d =
    let e : (((((((0 + d 0) * 2 + 0) * 2 + 0) * 2 + 0) * 2 + 0) * 2 + 0) * 2 + 0) * 2 + 0 ≡ 128 * d 0 = omega arith in
    ap (λ (n : ℕ). n ∷ []) e

-- a row of two dots
pub row-two : (d : ℕ → ℕ) → row_of 2 d ≡ (128 * d 0 + 64 * d 1) ∷ []
unfolding upto byte_at padded_bit appended
row-two d =
    let e : (((((((0 + d 0) * 2 + d 1) * 2 + 0) * 2 + 0) * 2 + 0) * 2 + 0) * 2 + 0) * 2 + 0 ≡ 128 * d 0 + 64 * d 1 = omega arith in
    ap (λ (n : ℕ). n ∷ []) e
