-- What the running machine reads of the numbers that it keeps.
-- Assumes nothing.
use Prim.Native.Nat.{ℕ, zero, suc, ◌+◌, ◌≤◌, ◌<◌, min}
use mathlib.Core.Path.{◌≡◌, refl, sym, ap, ◌∙◌}
use mathlib.Core.List.{List, [], ◌∷◌}
use native.Mathlib.Numerals.{add-one}
use native.Mathlib.Omega.{arith}
use borrow.Author.Tests.{lt-ltb, le-ltb}
use lib.IntN.{ℤ, pos, negsuc, nat_abs}
use lib.ListN.{get_or, set}
use lib.Seq.{get_or-set_other}
use Rattle.dither.specs.Internal.Carry.{clamp, left_of, corner_of, over_of}

pub left_at : (kept : List ℤ) (x i : ℕ) → x ≡ i + 1 → left_of kept x ≡ clamp (get_or kept i (pos 0))
left_at kept x i e = rw (e, add-one)

pub corner-at : (c : ℤ) (x : ℕ) → 0 < x → corner_of c x ≡ c
corner-at c zero h = let f : ⊥ = omega arith in absurd f
corner-at c (suc x) h = refl

module _ (w : ℕ) (kept : List ℤ) where
  pub over-in : (y x : ℕ) → 0 < y → x < w → over_of w y kept x ≡ clamp (get_or kept x (pos 0))
  unfolding over_of
  over-in y x h k = rw (lt-ltb 0 y h, lt-ltb x w k)

  pub over-past : (y x : ℕ) → 0 < y → w ≤ x → over_of w y kept x ≡ pos 0
  unfolding over_of
  over-past y x h k = rw (lt-ltb 0 y h, le-ltb x w k)

  pub over-top : (y x : ℕ) → y ≤ 0 → over_of w y kept x ≡ pos 0
  unfolding over_of
  over-top y x h = rw (le-ltb 0 y h)

  -- above every row but the first one is read alike
  pub over-alike : (y x : ℕ) → 0 < y → over_of w y kept x ≡ over_of w 1 kept x
  unfolding over_of
  over-alike y x h = rw (lt-ltb 0 y h)

  -- a number kept for another column does not matter
  pub over-set : (y i j : ℕ) (z : ℤ) → (j ≡ i → ⊥) → over_of w y (set kept i z) j ≡ over_of w y kept j
  unfolding over_of
  over-set y i j z h = rw (get_or-set_other kept i j z (pos 0) h)

-- only 0 counts as 0
clamp-zero : (z : ℤ) → clamp z ≡ pos 0 → z ≡ pos 0
clamp-zero (pos n) e = let h : min n 128 ≡ 0 = ap nat_abs e in ap pos (omega arith)
clamp-zero (negsuc n) e = let h : suc (min n 127) ≡ 0 = ap nat_abs e in let f : ⊥ = omega arith in absurd f

set_same : (kept : List ℤ) (x : ℕ) (z : ℤ) → get_or kept x z ≡ z → set kept x z ≡ kept
set_same [] x z e = refl
set_same (a ∷ kept) zero z e = ap (λ (b : ℤ). b ∷ kept) (sym e)
set_same (a ∷ kept) (suc x) z e = ap (λ (l : List ℤ). a ∷ l) (set_same kept x z e)

-- keeping 0 alters nothing where 0 was read above
pub kept-zero : (w : ℕ) (kept : List ℤ) (y x : ℕ) → 0 < y → x < w → over_of w y kept x ≡ pos 0 → set kept x (pos 0) ≡ kept
kept-zero w kept y x h k e = set_same kept x (pos 0) (clamp-zero (get_or kept x (pos 0)) (sym (over-in w kept y x h k) ∙ e))
