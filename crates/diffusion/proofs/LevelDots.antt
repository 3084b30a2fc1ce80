-- Eight dots of black and white to which nothing is handed: what they leave.
-- Assumes nothing.
use Prim.Native.Nat.{ℕ, zero, suc, ◌+◌, ◌-◌, ◌*◌, ◌/◌, ◌%◌, ◌≤◌, ◌<◌}
use mathlib.Core.Path.{◌≡◌, refl, sym, ap, ◌∙◌, subst, subst⁻¹}
use mathlib.Core.List.{List}
use mathlib.Core.Logic.{⊎_elim}
use native.Mathlib.Omega.{arith}
use lib.Dec.{leb}
use lib.IntN.{ℤ, pos, nat_abs}
use lib.ListN.{length, get_or, take, drop, set, length-take, length-drop}
use lib.Seq.{get_or-take, get_or-drop}
use borrow.Author.Tests.{le-leb, lt-leb}
use Rattle.rules.specs.Bits.{bit, appended}
use Rattle.rules.specs.Internal.Kernels.{threshold_bit, threshold_from}
use Rattle.laws.proofs.Tests.{lt-or-le}
use Rattle.rules.proofs.DigitsAppended.{appended-ext}
use Rattle.rules.proofs.ListPiece.{piece, piece-at}
use Rattle.diffusion.specs.declared.row.Flow.{Flow}
use Rattle.diffusion.specs.Internal.Sums.{part_of, rest_of, handed_right, value_by, rest_by, rest_before, sums_of}
use Rattle.diffusion.specs.Internal.Rows.{gray_of}
use Rattle.diffusion.specs.Internal.Flow.{parts_of, none_down, DotPassed, RowAt, DotsPassed, LevelByte}
use Rattle.diffusion.proofs.RowGrows.{SumStored, sum_left, byte-begins, dots-more, owed-le}
use Rattle.diffusion.proofs.SumsCorrect.{part-of-128, rest-none}

-- a residual that hands nothing to the right hands nothing down
part_none : (b : ℕ) → part_of 7 b ≡ 56 → part_of 1 b ≡ 8
unfolding part_of
part_none b e = omega arith

before-none : (g s : ℕ → ℕ) (x : ℕ) → handed_right g s x ≡ 56 → part_of 1 (rest_before g s x) ≡ 8
unfolding handed_right rest_before rest_by value_by
before-none g s zero e = part-of-128 1
before-none g s (suc x) e = part_none (rest_of (g x + s x + handed_right g s x)) e

parts_none : parts_of 128 ≡ none_down
parts_none = omega (arith, part-of-128 1, part-of-128 3, part-of-128 5)

dot-none : (g : ℕ) → g < 256 → g % 255 ≡ 0 → (g + 72 + 56) / 256 ≡ bit (leb 128 g)
dot-none g h e =
    ⊎_elim
    (λ l. rw (lt-leb 128 g l) (omega arith))
    (λ l. rw (le-leb 128 g l) (omega arith))
    (lt-or-le g 128)

level-passed : (f : Flow) (g d : ℕ) → g < 256 → g % 255 ≡ 0 → d ≡ f.down / 256 + none_down
    → DotPassed f (g + 72 + 56) (record { right = 56; down = d; stirred = f.stirred; digits = f.digits * 2 + bit (leb 128 g) })
level-passed f g d h e k =
    let p : parts_of (rest_of (g + 72 + 56)) ≡ none_down = ap parts_of (rest-none g h e) ∙ parts_none in
    record {
      right_is = sym (ap (part_of 7) (rest-none g h e) ∙ part-of-128 7);
      down_is = k ∙ ap (λ (n : ℕ). f.down / 256 + n) (sym p);
      unstirred = λ z. (z, p);
      digits_is = ap (λ (n : ℕ). f.digits * 2 + n) (sym (dot-none g h e));
    }

module _ (gray : List ℕ) (old : List ℤ) (b y : ℕ) (f : Flow) (work : List ℤ) (p : DotsPassed gray old b y f work)
    (from : b ≤ y) (more : y < length gray) (right : f.right ≡ 56) (plain : get_or gray y 0 % 255 ≡ 0)
    (sum : get_or work y (pos 0) ≡ pos 72) where
  one-level : (d : ℕ) (work' : List ℤ) → d ≡ f.down / 256 + none_down → SumStored work y (d % 256) work'
      → DotsPassed gray old b (y + 1)
      (record { right = 56; down = d; stirred = f.stirred; digits = f.digits * 2 + bit (leb 128 (get_or gray y 0)) }) work'
  one-level d work' e st =
      let r : Flow = record { right = 56; down = d; stirred = f.stirred; digits = f.digits * 2 + bit (leb 128 (get_or gray y 0)) } in
      let v : get_or gray y 0 + nat_abs (get_or work y (pos 0)) + f.right ≡ get_or gray y 0 + 72 + 56 = rw (sum, right) in
      dots-more gray old y f work p.at more r
      (subst⁻¹ (λ (n : ℕ). DotPassed f n r) v (level-passed f (get_or gray y 0) d (p.at.bytes y) plain e)) work' st b from p.digits_is

module _ (gray : List ℕ) (old : List ℤ) (x : ℕ) (f : Flow) (work : List ℤ) (byte : ℕ)
    (l : LevelByte f.right (piece gray x 8) (take (x + 8 - x) (drop x work)) byte)
    (a : RowAt gray old x f work) (some : 0 < x) (there : x + 8 ≤ length gray) (kept : length gray ≤ length work) where
  abbrev g : ℕ → ℕ
  g = gray_of gray

  abbrev s : ℕ → ℕ
  s = sums_of old

  plain-at : (i : ℕ) → i < 8 → get_or gray (x + i) 0 % 255 ≡ 0
  plain-at i h =
      let e : 0 + i ≡ i = omega arith in
      ap (λ (n : ℕ). n % 255) (piece-at gray x 8 i h) ∙ subst (λ (n : ℕ). get_or (piece gray x 8) n 0 % 255 ≡ 0) e (l.plain i h)

  sum-at : (i : ℕ) → i < 8 → get_or work (x + i) (pos 0) ≡ pos 72
  sum-at i h =
      sym (get_or-take (x + 8 - x) (drop x work) i (pos 0) (omega arith) ∙ get_or-drop x work i (pos 0))
      ∙ l.level i (omega (arith, length-take (x + 8 - x) (drop x work), length-drop x work))

  byte-is : byte ≡ appended 0 (threshold_from 128 gray x) 8
  byte-is =
      l.byte_is
      ∙ appended-ext 0 (threshold_bit 128 (piece gray x 8)) (threshold_from 128 gray x) 8
      (λ i k. ap (λ (n : ℕ). bit (leb 128 n)) (sym (piece-at gray x 8 i k)))

  none_before : part_of 1 (rest_before g s x) ≡ 8
  none_before = before-none g s x (sym a.right_is ∙ l.right_is)

  module _ (z : ℤ) (ez : z ≡ pos (f.down / 256 % 256 + 24)) where
    abbrev stored : List ℤ
    stored = set work (x - 1) z

    abbrev downs : ℕ → ℕ
    downs zero = f.down / 256 + none_down
    downs (suc m) = 536648

    abbrev after : ℕ → Flow
    after m = record { right = 56; down = downs m; stirred = f.stirred; digits = appended 0 (threshold_from 128 gray x) (suc m) }

    low : (f.down / 256 + none_down) % 256 ≡ f.down / 256 % 256 + 24
    low = omega (arith, a.down_is, none_before, owed-le gray old x f work a x a.in_row)

    high : (m : ℕ) → downs m / 256 ≡ 2096
    high zero = omega (arith, a.down_is, none_before, owed-le gray old x f work a x a.in_row)
    high (suc m) = refl

    left : SumStored work x ((f.down / 256 + none_down) % 256) stored
    left = sum_left work x _ z stored some (omega arith) (ez ∙ ap pos (sym low)) refl

    kept-sum : (i : ℕ) → i < 8 → get_or stored (x + i) (pos 0) ≡ pos 72
    kept-sum i h = left.else (x + i) (λ u. omega arith) ∙ sum-at i h

    same_sum : (m : ℕ) → m < 7 → SumStored stored (x + suc m) 72 stored
    same_sum m h =
        record {
          long = refl;
          there = λ k e. let o : k ≡ x + m = omega arith in ap (λ (n : ℕ). get_or stored n (pos 0)) o ∙ kept-sum m (omega arith);
          else = λ k e. refl;
        }

    run : (m : ℕ) → m < 8 → DotsPassed gray old x (x + suc m) (after m) stored
    unfolding appended
    run zero h =
        let e : x + 0 ≡ x = omega arith in
        let p = ap (λ (n : ℕ). get_or gray n 0) e in
        let q = plain-at 0 (omega arith) in
        let u : get_or gray x 0 % 255 ≡ 0 = subst (λ (n : ℕ). get_or gray n 0 % 255 ≡ 0) e q in
        let v : get_or work x (pos 0) ≡ pos 72 = subst (λ (n : ℕ). get_or work n (pos 0) ≡ pos 72) e (sum-at 0 (omega arith)) in
        let t = one-level gray old x x _ work (byte-begins gray old x f work a) (omega arith) (omega arith) l.right_is u v
        (f.down / 256 + none_down) stored refl left in
        subst⁻¹ (λ (n : ℕ). DotsPassed gray old x (x + 1)
        (record { right = 56; down = f.down / 256 + none_down; stirred = f.stirred; digits = 0 * 2 + bit (leb 128 n) }) stored) p t
    run (suc m) h =
        let t = one-level gray old x (x + suc m) (after m) stored (run m (omega arith)) (omega arith) (omega arith) refl
        (plain-at (suc m) h) (kept-sum (suc m) h) 536648 stored (omega (arith, high m)) (same_sum m (omega arith)) in
        let e : x + suc m + 1 ≡ x + suc (suc m) = omega arith in
        subst (λ (n : ℕ). DotsPassed gray old x n (after (suc m)) stored) e t

    pub level-dots : DotsPassed gray old x (x + 8) (record { right = 56; down = 536648; stirred = f.stirred; digits = byte }) stored
    level-dots =
        subst⁻¹ (λ (n : ℕ). DotsPassed gray old x (x + 8) (record { right = 56; down = 536648; stirred = f.stirred; digits = n }) stored)
        byte-is (run 7 (omega arith))
