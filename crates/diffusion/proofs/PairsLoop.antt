-- Rows of two samples, one after the other.
-- Assumes nothing.
use Prim.Native.Nat.{ℕ, zero, suc, ◌+◌, ◌*◌, ◌/◌, ◌%◌, ◌≤◌, ◌<◌}
use mathlib.Core.Path.{◌≡◌, refl, sym, ap, ap₂, ◌∙◌, subst}
use mathlib.Core.List.{List, [], ◌∷◌}
use native.Mathlib.Omega.{arith}
use lib.IntN.{sub_ℕ}
use lib.ListN.{length, get_or, set}
use Rattle.rules.specs.Internal.Planes.{scan_of, dither_bit}
use Rattle.diffusion.specs.declared.pairs.PairRow.{PairRow}
use Rattle.diffusion.specs.Internal.Sums.{none, part_of, rest_of, handed_right, value_by, rest_by, rest_before, rest_after, handed_down}
use Rattle.diffusion.specs.Internal.Rows.{row_of}
use Rattle.diffusion.specs.Internal.RowByRow.{PlaneLent, RowsWritten}
use Rattle.diffusion.specs.Internal.Pairs.{either, LevelPair, PairDithered}
use Rattle.diffusion.proofs.PlaneRows.{row-two, row_same}
use Rattle.diffusion.proofs.RowsLoop.{HandedSums, first-sums, rows-unwritten, byte_put, row-dots, next-sums}
use Rattle.diffusion.proofs.SumsCorrect.{value_same, down-same, value_by-level, level-down}

-- what both numbers have

either_is : (left right n x : ℕ) → left ≡ n → right ≡ n → either left right x ≡ n
unfolding either
either_is left right n zero e f = e
either_is left right n (suc x) e f = f

either-plain : (left right x : ℕ) → (left < 256) × (left % 255 ≡ 0) → (right < 256) × (right % 255 ≡ 0)
    → (either left right x < 256) × (either left right x % 255 ≡ 0)
unfolding either
either-plain left right zero e f = e
either-plain left right (suc x) e f = f

-- ---- one row

white-from-128 : (g : ℕ) → g < 256 → g / 128 ≡ (g + 72 + 56) / 256
white-from-128 g h = omega arith

module _ (first second left right : ℕ) (r : PairRow) where
  abbrev shades : ℕ → ℕ
  shades = either first second

  abbrev sums : ℕ → ℕ
  sums = either left right

  byte_of : (v u : ℕ) → value_by (either first second) (either left right) 0 ≡ v → value_by (either first second) (either left right) 1 ≡ u
      → r.byte ≡ 128 * (v / 256) + 64 * (u / 256)
      → r.byte ∷ [] ≡ row_of 2 (λ x. value_by (either first second) (either left right) x / 256)
  byte_of v u e f b =
      ap (λ (n : ℕ). n ∷ []) (b ∙ ap₂ (λ (m n : ℕ). 128 * (m / 256) + 64 * (n / 256)) (sym e) (sym f))
      ∙ sym (row-two (λ x. value_by shades sums x / 256))

  -- its samples are black and white, and nothing is handed to them
  pub pair-level : first < 256 → second < 256 → LevelPair first second left right
      → r.byte ≡ 128 * (first / 128) + 64 * (second / 128) → r.left ≡ 72 → r.right ≡ 72 → PairDithered first second left right r
  unfolding either
  pair-level f s l b p q =
      let level : (x : ℕ) → x < 2 → sums x ≡ none = (λ x k. either_is left right none x l.left_is l.right_is) in
      let plain : (x : ℕ) → x < 2 → (shades x < 256) × (shades x % 255 ≡ 0) =
      (λ x k. either-plain first second x (f, l.first_plain) (s, l.second_plain)) in
      let v = value_by-level 2 shades sums level plain 0 (omega arith) in
      let u = value_by-level 2 shades sums level plain 1 (omega arith) in
      record {
        byte_is = byte_of (first + 72 + 56) (second + 72 + 56) v u
            (b ∙ ap₂ (λ (m n : ℕ). 128 * m + 64 * n) (white-from-128 first f) (white-from-128 second s));
        left_is = p ∙ sym (level-down 2 shades sums level plain 0 (omega arith));
        right_is = q ∙ sym (level-down 2 shades sums level plain 1 (omega arith));
      }

  -- any others
  module _ (p7 p5 p3 p1 q5 : ℕ) where
    abbrev v : ℕ
    v = first + left + 56

    abbrev a : ℕ
    a = v % 256 + v / 256

    abbrev u : ℕ
    u = second + right + p7

    abbrev b : ℕ
    b = u % 256 + u / 256

    pub pair_made : p7 ≡ part_of 7 a → p5 ≡ part_of 5 a → p3 ≡ part_of 3 b → p1 ≡ part_of 1 a → q5 ≡ part_of 5 b
        → r.byte ≡ 128 * (v / 256) + 64 * (u / 256) → r.left ≡ 8 + p5 + p3 → r.right ≡ p1 + q5 + 24
        → PairDithered first second left right r
    unfolding either handed_right value_by rest_of rest_by rest_before rest_after handed_down part_of
    pair_made e7 e5 e3 e1 f5 eb el er =
        let f : value_by shades sums 1 ≡ u = ap (λ (n : ℕ). second + right + n) (sym e7) in
        let g : b ≡ rest_by shades sums 1 = ap rest_of (sym f) in
        record {
          byte_is = byte_of v u refl f eb;
          left_is = el ∙ ap₂ (λ (m n : ℕ). 8 + m + n) e5 (e3 ∙ ap (part_of 3) g);
          right_is = er ∙ ap₂ (λ (m n : ℕ). m + n + 24) e1 (f5 ∙ ap (part_of 5) g);
        }

-- ---- row by row

-- the rows before y are written, and hand down these sums
pub record PairsAt (h : ℕ) (gray out₀ out : List ℕ) (left right y : ℕ) : Type 0 where
  pub most : y ≤ h
  pub written : RowsWritten 2 h gray out₀ y out
  pub given : HandedSums 2 gray y (either left right)

pub pairs-begun : (h : ℕ) (gray out : List ℕ) → PairsAt h gray out out 72 72 0
pairs-begun h gray out =
    record {
      most = omega arith;
      written = rows-unwritten 2 h gray out;
      given = record {
        are = λ x l. ap (λ (n : ℕ). sub_ℕ n none) (either_is 72 72 none x refl refl) ∙ (first-sums 2 gray).are x l;
        small = λ x l. rw (either_is 72 72 none x refl refl) (omega arith);
      };
    }

module _ {h : ℕ} {gray out₀ out : List ℕ} {left right y : ℕ} (i : PairsAt h gray out₀ out left right y) where
  pub pairs_small : (left ≤ 144) × (right ≤ 144)
  unfolding either
  pairs_small = (i.given.small 0 (omega arith), i.given.small 1 (omega arith))

  pub pairs_end : h ≤ y → RowsWritten 2 h gray out₀ h out
  pairs_end l =
      let m = i.most in
      let e : y ≡ h = omega arith in
      subst (λ (n : ℕ). RowsWritten 2 h gray out₀ n out) e i.written

  module _ (bytes : (n : ℕ) → get_or gray n 0 < 256) (r : PairRow)
      (d : PairDithered (get_or gray (2 * y) 0) (get_or gray (2 * y + 1) 0) left right r) where
    abbrev row : ℕ → ℕ
    row = either (get_or gray (2 * y) 0) (get_or gray (2 * y + 1) 0)

    abbrev shade : ℕ → ℕ
    shade c = scan_of 2 gray c y

    shade-is : (x : ℕ) → x < 2 → row x ≡ shade x
    unfolding either
    shade-is zero k = let e : 2 * y ≡ y * 2 + 0 = omega arith in ap (λ (n : ℕ). get_or gray n 0) e
    shade-is (suc zero) k = let e : 2 * y + 1 ≡ y * 2 + 1 = omega arith in ap (λ (n : ℕ). get_or gray n 0) e
    shade-is (suc (suc x)) k = let z : ⊥ = omega arith in absurd z

    abbrev same : (x : ℕ) → x < 2 → (row x ≡ shade x) × (either left right x ≡ either left right x)
    same x k = (shade-is x k, refl)

    down_is : (x : ℕ) → x < 2 → either r.left r.right x ≡ handed_down 2 shade (either left right) x
    unfolding either
    down_is zero k = d.left_is ∙ down-same 2 row shade (either left right) (either left right) same 0 k
    down_is (suc zero) k = d.right_is ∙ down-same 2 row shade (either left right) (either left right) same 1 k
    down_is (suc (suc x)) k = let z : ⊥ = omega arith in absurd z

    pub pairs_next : y < h → PlaneLent 2 h (length gray) (length out₀)
        → PairsAt h gray out₀ (set out y r.byte) r.left r.right (y + 1)
    pairs_next l lent =
        let sums : ℕ → ℕ = either left right in
        let b : r.byte ∷ [] ≡ row_of 2 (λ x. dither_bit 2 gray (y * 2 + x)) =
        d.byte_is
        ∙ row_same 2 (λ x. value_by row sums x / 256) (λ x. value_by shade sums x / 256)
        (λ x k. ap (λ (n : ℕ). n / 256) (value_same 2 row shade sums sums same x k))
        ∙ row-dots bytes i.given in
        record {
          most = omega arith;
          written = byte_put lent (omega arith) i.written l r.byte b;
          given = next-sums bytes i.given (either r.left r.right) down_is;
        }
