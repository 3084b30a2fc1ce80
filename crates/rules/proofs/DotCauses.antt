-- What a dot depends on: the rows above and, in its own row, the samples up to its own in the order of visiting. Each row runs in its own
-- direction.
-- Assumes nothing.
use Prim.Native.Nat.{ℕ, zero, suc, ◌-◌, ◌≤◌, ◌<◌}
use mathlib.Core.Path.{◌≡◌, refl, sym, ap, ◌∙◌}
use mathlib.Core.Bool.{Bool, true, false}
use mathlib.Core.Logic.{⊎_elim}
use native.Mathlib.Omega.{arith}
use borrow.Author.Tests.{ltb-true, lt-ltb, le-ltb}
use lib.Dec.{ltb}
use lib.IntN.{ℤ, pos}
use Rattle.error.specs.Choice.{if}
use Rattle.rules.specs.Diffusion.{Scan, Direction, to_right, to_left, value, residual, on_left, on_right, before, after, visited}
use Rattle.rules.specs.Diffusion.{value_from, handed, row_value, above, value_at, residual_at}
use Rattle.laws.proofs.Tests.{lt-or-le}

-- ---- the order of visiting

pub visited-in : (d : Direction) (w k : ℕ) → k < w → visited d w k < w
visited-in to_right w k h = h
visited-in to_left w k h = omega arith

pub visited-twice : (d : Direction) (w x : ℕ) → x < w → visited d w (visited d w x) ≡ x
visited-twice to_right w x h = refl
visited-twice to_left w x h = omega arith

-- ---- one row

module _ (w : ℕ) (a b : ℕ → ℤ) (same : (k : ℕ) → k < w → a k ≡ b k) where
  left-ext : (x : ℕ) → x < w → on_left a x ≡ on_left b x
  left-ext zero h = refl
  left-ext (suc x) h = same x (omega arith)

  right-ext : (x : ℕ) → on_right w a x ≡ on_right w b x
  right-ext x = go (ltb (suc x) w) refl
    where
      go : (t : Bool) → ltb (suc x) w ≡ t → if t (a (suc x)) (pos 0) ≡ if t (b (suc x)) (pos 0)
      go true e = same (suc x) (ltb-true (suc x) w e)
      go false e = refl

  module _ (e : Direction) (f g : ℕ → ℕ) where
    value-ext : (x : ℕ) (p q : ℤ) → x < w → f x ≡ g x → p ≡ q → value_from e w f a x p ≡ value_from e w g b x q
    unfolding value_from
    value-ext x p q h i k = by e
      where
        by : (e : Direction) → value (f x) p (before e w a x) (a x) (after e w a x) ≡ value (g x) q (before e w b x) (b x) (after e w b x)
        by to_right = rw (i, k, left-ext x h, same x h, right-ext x)
        by to_left = rw (i, k, left-ext x h, same x h, right-ext x)

    module _ (d : Direction) where
      handed-ext : (k : ℕ) → k ≤ w → ((j : ℕ) → j < k → f (visited d w j) ≡ g (visited d w j)) → handed d e w f a k ≡ handed d e w g b k
      unfolding handed
      handed-ext zero h i = refl
      handed-ext (suc k) h i =
          ap residual (value-ext (visited d w k) (handed d e w f a k) (handed d e w g b k) (visited-in d w k h) (i k (omega arith))
          (handed-ext k (omega arith) (λ j l. i j (omega arith))))

      row-ext : (x : ℕ) → x < w → ((j : ℕ) → j ≤ visited d w x → f (visited d w j) ≡ g (visited d w j))
          → row_value d e w f a x ≡ row_value d e w g b x
      unfolding row_value
      row-ext x h i =
          let own : f x ≡ g x = ap f (sym (visited-twice d w x h)) ∙ i (visited d w x) (omega arith) ∙ ap g (visited-twice d w x h) in
          let l = visited-in d w x h in
          value-ext x (handed d e w f a (visited d w x)) (handed d e w g b (visited d w x)) h own
          (handed-ext (visited d w x) (omega arith) (λ j m. i j (omega arith)))

-- what a row hands to the dot at column x is the residual before it
pub handed-before : (d e : Direction) (w : ℕ) (f : ℕ → ℕ) (a : ℕ → ℤ) (x : ℕ) → x < w
    → handed d e w f a (visited d w x) ≡ before d w (λ k. residual (row_value d e w f a k)) x
unfolding handed row_value
handed-before to_right e w f a zero h = refl
handed-before to_right e w f a (suc x) h = refl
handed-before to_left e w f a x h =
    ⊎_elim
    (λ (l : suc x < w).
    let k = w - suc (suc x) in
    let m : w - suc x ≡ suc k = omega arith in
    let n : w - suc k ≡ suc x = omega arith in
    rw (m, n, lt-ltb (suc x) w l))
    (λ (l : w ≤ suc x).
    let m : w - suc x ≡ 0 = omega arith in
    rw (m, le-ltb (suc x) w l))
    (lt-or-le (suc x) w)

-- ---- all rows

module _ (dirs : ℕ → Direction) (w : ℕ) (p q : Scan) where
  -- two scans agree above row y
  abbrev Agree : ℕ → Type 0
  Agree y = (j k : ℕ) → k < y → j < w → p j k ≡ q j k

  pub above-ext : (y : ℕ) → Agree y → (x : ℕ) → x < w → above dirs w p y x ≡ above dirs w q y x
  unfolding above
  above-ext zero e x h = refl
  above-ext (suc y) e x h =
      let n = visited-in (dirs y) w x h in
      ap residual
      (row-ext w (above dirs w p y) (above dirs w q y) (above-ext y (λ j k l m. e j k (omega arith) m)) (dirs (y - 1)) (λ c. p c y)
      (λ c. q c y) (dirs y) x h
      (λ j l. e (visited (dirs y) w j) y (omega arith) (visited-in (dirs y) w j (omega arith))))

  pub value_at-ext : (x y : ℕ) → x < w → Agree y
      → ((j : ℕ) → j ≤ visited (dirs y) w x → p (visited (dirs y) w j) y ≡ q (visited (dirs y) w j) y)
      → value_at dirs w p x y ≡ value_at dirs w q x y
  unfolding value_at
  value_at-ext x y h e k =
      row-ext w (above dirs w p y) (above dirs w q y) (above-ext y e) (dirs (y - 1)) (λ c. p c y) (λ c. q c y) (dirs y) x h k

-- ---- the four predecessors

module _ (dirs : ℕ → Direction) (w : ℕ) (scan : Scan) where
  pub residual-is : (x y : ℕ) → residual_at dirs w scan x y ≡ residual (value_at dirs w scan x y)
  unfolding above value_at
  residual-is x y = refl

  -- what the row hands to column x
  pub handed-is : (x y : ℕ) → x < w
      → handed (dirs y) (dirs (y - 1)) w (λ c. scan c y) (above dirs w scan y) (visited (dirs y) w x)
      ≡ before (dirs y) w (λ k. residual_at dirs w scan k y) x
  unfolding above
  handed-is x y h = handed-before (dirs y) (dirs (y - 1)) w (λ c. scan c y) (above dirs w scan y) x h

  pub value-is : (x y : ℕ) → x < w
      → value_at dirs w scan x y
      ≡ value (scan x y) (before (dirs y) w (λ k. residual_at dirs w scan k y) x) (before (dirs (y - 1)) w (above dirs w scan y) x)
      (above dirs w scan y x) (after (dirs (y - 1)) w (above dirs w scan y) x)
  unfolding value_at row_value value_from
  value-is x y h =
      ap (λ (l : ℤ). value (scan x y) l (before (dirs (y - 1)) w (above dirs w scan y) x) (above dirs w scan y x)
      (after (dirs (y - 1)) w (above dirs w scan y) x)) (handed-is x y h)

  pub above-top : (x : ℕ) → above dirs w scan 0 x ≡ pos 0
  unfolding above
  above-top x = refl
