-- The bytes of a row whose padding is cleared.
use Prim.Native.Nat.{ℕ, ◌+◌, ◌-◌, ◌*◌, ◌/◌, ◌%◌, ◌^◌, ◌≤◌, ◌<◌}
use mathlib.Core.Path.{◌≡◌, refl, ap, sym, ◌∙◌}
use mathlib.Core.Bool.{Bool, true, false}
use mathlib.Core.List.{List}
use native.Mathlib.Omega.{arith}
use borrow.Author.Tests.{eqb-true, eqb-false}
use lib.Arith.{lt_of_le-ne}
use lib.Dec.{eqb}
use lib.ListN.{length, get_or}
use lib.Seq.{get_or-set_same, get_or-set_other}
use Rattle.image.specs.Geometry.{row_bytes, padding_bits}
use Rattle.image.specs.Rows.{clear_low, clear_padding}
use Rattle.image.proofs.Bits.{clear_above, clear-below}

-- how many low bits of byte j of a row are padding: none but in the last
abbrev pub padding_at : ℕ → ℕ → ℕ
padding_at width j = 8 * (j + 1) - width

module _ (w : ℕ) (row : List ℕ) (e : length row ≡ row_bytes w) (j : ℕ) (h : j < row_bytes w) where
  by_last : (t : Bool) → eqb j (length row - 1) ≡ t → get_or (clear_padding w row) j 0 ≡ clear_low (padding_at w j) (get_or row j 0)
  unfolding clear_padding
  by_last true d =
      let l : j ≡ length row - 1 = eqb-true _ _ d in
      let b : padding_bits w ≡ padding_at w j = omega arith in
      ap (λ (k : ℕ). get_or (clear_padding w row) k 0) l
      ∙ get_or-set_same row (length row - 1) _ 0 (omega arith)
      ∙ ap (λ (k : ℕ). clear_low (padding_bits w) (get_or row k 0)) (sym l)
      ∙ ap (λ (k : ℕ). clear_low k (get_or row j 0)) b
  by_last false d =
      let l : j ≡ length row - 1 → ⊥ = eqb-false _ _ d in
      let n : j < length row - 1 = lt_of_le-ne (omega arith) l in
      let b : 0 ≡ padding_at w j = omega arith in
      get_or-set_other row (length row - 1) j _ 0 l ∙ same ∙ ap (λ (k : ℕ). clear_low k (get_or row j 0)) b
    where
      same : get_or row j 0 ≡ clear_low 0 (get_or row j 0)
      same = omega arith

  pub cleared_at : get_or (clear_padding w row) j 0 ≡ clear_low (padding_at w j) (get_or row j 0)
  cleared_at = by_last (eqb j (length row - 1)) refl

-- bits left of the width are kept, and those right of it are 0
module _ (w x b : ℕ) where
  pub bit_kept : x < w → clear_low (padding_at w (x / 8)) b / 2 ^ (7 - x % 8) % 2 ≡ b / 2 ^ (7 - x % 8) % 2
  bit_kept h = ap (λ (n : ℕ). n % 2) (clear_above (padding_at w (x / 8)) (7 - x % 8) b (omega arith))

  pub bit-cleared : w ≤ x → clear_low (padding_at w (x / 8)) b / 2 ^ (7 - x % 8) % 2 ≡ 0
  bit-cleared h = clear-below (padding_at w (x / 8)) (7 - x % 8) b (omega arith)
