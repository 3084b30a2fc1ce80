-- Rows of one sample, one after the other.
-- Assumes nothing.
use Prim.Native.Nat.{ℕ, ◌+◌, ◌*◌, ◌/◌, ◌%◌, ◌≤◌, ◌<◌}
use mathlib.Core.Path.{◌≡◌, sym, ap, ◌∙◌, subst}
use mathlib.Core.List.{List, [], ◌∷◌}
use native.Mathlib.Omega.{arith}
use lib.ListN.{length, get_or, set}
use Rattle.rules.specs.Internal.Planes.{scan_of, dither_bit}
use Rattle.diffusion.specs.Internal.Sums.{part_of, rest_of, handed_right, value_by, rest_by}
use Rattle.diffusion.specs.Internal.Rows.{row_of}
use Rattle.diffusion.specs.Internal.RowByRow.{PlaneLent, RowsWritten}
use Rattle.diffusion.proofs.PlaneRows.{row_one}
use Rattle.diffusion.proofs.RowsLoop.{HandedSums, first-sums, rows-unwritten, byte_put, row-dots, next-sums}
use Rattle.diffusion.proofs.SumsCorrect.{part_small, one_down}

-- the sums handed to a row of one dot, below one whose residual is held as b
abbrev sums_below : ℕ → ℕ → ℕ
sums_below b x = 32 + part_of 5 b

-- the rows before y are written, and the last one's residual is held as `rest`
pub record OnesAt (h : ℕ) (gray out₀ out : List ℕ) (rest y : ℕ) : Type 0 where
  pub most : y ≤ h
  pub small : rest ≤ 256
  pub written : RowsWritten 1 h gray out₀ y out
  pub given : HandedSums 1 gray y (sums_below rest)

pub ones-begun : (h : ℕ) (gray out : List ℕ) → OnesAt h gray out out 128 0
unfolding part_of
ones-begun h gray out = record { most = omega arith; small = omega arith; written = rows-unwritten 1 h gray out; given = first-sums 1 gray }

module _ {h : ℕ} {gray out₀ out : List ℕ} {rest y : ℕ} (bytes : (n : ℕ) → get_or gray n 0 < 256) (i : OnesAt h gray out₀ out rest y)
    (part : ℕ) (e : part ≡ part_of 5 rest) where
  pub ones_small : get_or gray y 0 + part + 88 < 512
  ones_small = let a = part_small 5 rest i.small in let b = bytes y in omega arith

  abbrev shade : ℕ → ℕ
  shade c = scan_of 1 gray c y

  value-is : value_by shade (sums_below rest) 0 ≡ get_or gray y 0 + part + 88
  unfolding value_by handed_right
  value-is =
      let z : y * 1 + 0 ≡ y = omega arith in
      let g : shade 0 ≡ get_or gray y 0 = ap (λ (n : ℕ). get_or gray n 0) z in
      omega arith

  rest-is : rest_by shade (sums_below rest) 0 ≡ (get_or gray y 0 + part + 88) % 256 + (get_or gray y 0 + part + 88) / 256
  unfolding rest_by rest_of
  rest-is = ap rest_of value-is

  pub ones-next : y < h → PlaneLent 1 h (length gray) (length out₀)
      → OnesAt h gray out₀ (set out y (128 * ((get_or gray y 0 + part + 88) / 256)))
      ((get_or gray y 0 + part + 88) % 256 + (get_or gray y 0 + part + 88) / 256) (y + 1)
  ones-next l lent =
      let v = get_or gray y 0 + part + 88 in
      let s = ones_small in
      let d : 128 * (v / 256) ∷ [] ≡ row_of 1 (λ x. dither_bit 1 gray (y * 1 + x)) =
      ap (λ (n : ℕ). 128 * (n / 256) ∷ []) (sym value-is)
      ∙ sym (row_one (λ x. value_by shade (sums_below rest) x / 256))
      ∙ row-dots bytes i.given in
      record {
        most = omega arith;
        small = omega arith;
        written = byte_put lent (omega arith) i.written l (128 * (v / 256)) d;
        given = next-sums bytes i.given (sums_below (v % 256 + v / 256)) (λ x k.
            let z : x ≡ 0 = omega arith in
            rw z (sym (one_down shade (sums_below rest) ∙ ap (λ (b : ℕ). 32 + part_of 5 b) rest-is)));
      }

pub ones-end : {h : ℕ} {gray out₀ out : List ℕ} {rest y : ℕ} → OnesAt h gray out₀ out rest y → h ≤ y → RowsWritten 1 h gray out₀ h out
ones-end {h} {gray} {out₀} {out} {rest} {y} i l =
    let m = i.most in
    let e : y ≡ h = omega arith in
    subst (λ (n : ℕ). RowsWritten 1 h gray out₀ n out) e i.written
