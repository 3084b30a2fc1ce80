-- The ordered numbers: the quarter rule, the table of 64, and the product form of the rule.
-- Assumes nothing.
use Prim.Native.Nat.{ℕ, zero, suc, ◌+◌, ◌-◌, ◌*◌, ◌/◌, ◌%◌, ◌^◌, ◌≤◌, ◌<◌}
use mathlib.Core.Path.{◌≡◌, refl, sym, ap, ◌∙◌, subst}
use mathlib.Core.Bool.{Bool, true, false, ◌||◌}
use mathlib.Core.Logic.{◌⊎◌, inl, inr, ⊎_elim}
use mathlib.Core.List.{List, [], ◌∷◌, append-nil}
use native.Mathlib.Nat.{div-eq_of_lt, div-add-mod', mod-lt, mul-le-mul, mul-le-mul_left, mul-suc, mul_comm, mul_assoc, pow-suc}
use native.Mathlib.Omega.{arith}
use lib.ListN.{take, drop, replicate}
use lib.Seq.{get_or-take, drop-nil}
use lib.Dec.{leb, eqb}
use borrow.Author.Tests.{eqb-true, ne_eqb, le-leb, lt-leb}
use Rattle.rules.specs.Bits.{upto}
use Rattle.rules.specs.Ordered.{quarter, number, numbers, exponent, bound, cell, known_side}
use Rattle.ordered.specs.Internal.Sides.{Cell, number_table}
use Rattle.laws.proofs.Tests.{lt-or-le}
use Rattle.rules.proofs.EntryTold.{never}

-- ---- the quarters

first : (x s : ℕ) → x < s → x / s ≡ 0
first x s h = div-eq_of_lt h

second : (x s : ℕ) → 0 < s → s ≤ x → 0 < x / s
second x s p h = at (x / s) refl
  where
    at : (q : ℕ) → x / s ≡ q → 0 < q
    at zero e =
        let d = div-add-mod' x s in
        let m = mod-lt x p in
        let z : x / s * s ≡ 0 * s = ap (λ (t : ℕ). t * s) e in
        let f : ⊥ = omega arith in
        absurd f
    at (suc q) e = omega arith

module _ (s x y : ℕ) (p : 0 < s) where
  pub upper-left : x < s → y < s → 0 ≡ quarter (x / s) (y / s)
  upper-left h k = rw (first x s h, first y s k)

  pub upper-right : s ≤ x → y < s → 2 ≡ quarter (x / s) (y / s)
  upper-right h k = rw (first y s k) (go (x / s) (second x s p h))
    where
      go : (i : ℕ) → 0 < i → 2 ≡ quarter i 0
      go zero h = absurd (omega arith)
      go (suc i) h = refl

  pub lower-left : x < s → s ≤ y → 3 ≡ quarter (x / s) (y / s)
  lower-left h k = rw (first x s h) (go (y / s) (second y s p k))
    where
      go : (j : ℕ) → 0 < j → 3 ≡ quarter 0 j
      go zero h = absurd (omega arith)
      go (suc j) h = refl

  pub lower-right : s ≤ x → s ≤ y → 1 ≡ quarter (x / s) (y / s)
  lower-right h k = go (x / s) (y / s) (second x s p h) (second y s p k)
    where
      go : (i j : ℕ) → 0 < i → 0 < j → 1 ≡ quarter i j
      go zero j h k = absurd (omega arith)
      go (suc i) zero h k = absurd (omega arith)
      go (suc i) (suc j) h k = refl

-- ---- one side from half of it

pub cell-one : (x y : ℕ) → Cell 1 x y 0
unfolding number
cell-one x y = record { small = omega arith; is = λ k e. go k e }
  where
    go : (k : ℕ) → 1 ≡ 2 ^ k → 0 ≡ number k x y
    go zero e = refl
    go (suc k) e = let q = pow-suc 2 k in absurd (omega arith)

square-doubled : (h : ℕ) → 4 * (h * h) ≡ (2 * h) * (2 * h)
square-doubled h =
    let a : 2 * (2 * (h * h)) ≡ 4 * (h * h) = omega arith in
    let b : h * (2 * h) ≡ 2 * (h * h) = sym (mul_assoc h 2 h) ∙ ap (λ (t : ℕ). t * h) (mul_comm h 2) ∙ mul_assoc 2 h h in
    sym a ∙ sym (mul_assoc 2 h (2 * h) ∙ ap (λ (t : ℕ). 2 * t) b)

area-half : (side : ℕ) → 4 * (side / 2 * (side / 2)) ≤ side * side
area-half side =
    let h = side / 2 in
    let e : 4 * (h * h) ≡ (2 * h) * (2 * h) = square-doubled h in
    rw e (mul-le-mul {n₁ = 2 * h} {m₁ = 2 * h} {n₂ = side} {m₂ = side} (omega arith) (omega arith))

pub cell-more : (side x y n q : ℕ) → (side ≡ 1 → ⊥) → 0 < side → Cell (side / 2) (x % (side / 2)) (y % (side / 2)) n → q ≤ 3
    → q ≡ quarter (x / (side / 2)) (y / (side / 2)) → Cell side x y (4 * n + q)
unfolding number
cell-more side x y n q h p c l e = record { small = omega (arith, c.small, area-half side); is = go }
  where
    go : (k : ℕ) → side ≡ 2 ^ k → 4 * n + q ≡ number k x y
    go zero d = absurd (h d)
    go (suc k) d =
        let f : side / 2 ≡ 2 ^ k = omega (arith, pow-suc 2 k) in
        let i = c.is k f in
        let j : n ≡ number k (x % 2 ^ k) (y % 2 ^ k) = subst (λ (s : ℕ). n ≡ number k (x % s) (y % s)) f i in
        let m : q ≡ quarter (x / 2 ^ k) (y / 2 ^ k) = subst (λ (s : ℕ). q ≡ quarter (x / s) (y / s)) f e in
        rw (← j, ← m)

-- an example: the upper right number of side 2
two-wide : Cell 2 1 0 2
two-wide = cell-more 2 1 0 0 2 (λ e. omega arith) (omega arith) (cell-one 0 0) (omega arith) refl

-- a number for a half of at most 4
pub cell-small : (s x y n : ℕ) → s ≤ 4 → Cell s x y n → n < 16
cell-small s x y n h c = omega (arith, c.small, mul-le-mul {n₁ = s} {m₁ = s} {n₂ = 4} {m₂ = 4} h h)

-- ---- the table

abbrev pub table : List ℕ
table =
    0 ∷ 32 ∷ 8 ∷ 40 ∷ 2 ∷ 34 ∷ 10 ∷ 42 ∷ 48 ∷ 16 ∷ 56 ∷ 24 ∷ 50 ∷ 18 ∷ 58 ∷ 26
    ∷ 12 ∷ 44 ∷ 4 ∷ 36 ∷ 14 ∷ 46 ∷ 6 ∷ 38 ∷ 60 ∷ 28 ∷ 52 ∷ 20 ∷ 62 ∷ 30 ∷ 54 ∷ 22
    ∷ 3 ∷ 35 ∷ 11 ∷ 43 ∷ 1 ∷ 33 ∷ 9 ∷ 41 ∷ 51 ∷ 19 ∷ 59 ∷ 27 ∷ 49 ∷ 17 ∷ 57 ∷ 25
    ∷ 15 ∷ 47 ∷ 7 ∷ 39 ∷ 13 ∷ 45 ∷ 5 ∷ 37 ∷ 63 ∷ 31 ∷ 55 ∷ 23 ∷ 61 ∷ 29 ∷ 53 ∷ 21 ∷ []

-- the one computed test: the table follows the quarter rule
pub table-right : table ≡ numbers 3
unfolding numbers number upto
table-right = refl

-- it is taken for every side but 2 and 4
pub table-other : (s : ℕ) → (s ≡ 2 → ⊥) → (s ≡ 4 → ⊥) → table ≡ number_table (exponent s)
table-other s h k = rw (ne_eqb s 2 h, ne_eqb s 4 k) (table-right ∙ sym (append-nil (numbers 3)))

pub drop-replicate : {A : Type 0} (n m : ℕ) (a : A) → drop m (replicate n a) ≡ replicate (n - m) a
drop-replicate zero m a = let e : 0 ≡ 0 - m = omega arith in drop-nil m ∙ ap (λ (k : ℕ). replicate k a) e
drop-replicate (suc n) zero a = let e : suc n ≡ suc n - 0 = omega arith in ap (λ (k : ℕ). replicate k a) e
drop-replicate (suc n) (suc m) a =
    let e : n - m ≡ suc n - suc m = omega arith in
    drop-replicate n m a ∙ ap (λ (k : ℕ). replicate k a) e

-- ---- the rule

or-three : (a b c : Bool) → (a || b || c) ≡ true → (a ≡ true) ⊎ ((b ≡ true) ⊎ (c ≡ true))
or-three true b c e = inl refl
or-three false true c e = inr (inl refl)
or-three false false true e = inr (inr refl)
or-three false false false e = never e

pub known-side : (s : ℕ) → known_side s ≡ true → (s ≡ 2) ⊎ ((s ≡ 4) ⊎ (s ≡ 8))
known-side s e =
    ⊎_elim (λ h. inl (eqb-true s 2 h)) (λ h. inr (⊎_elim (λ k. inl (eqb-true s 4 k)) (λ k. inr (eqb-true s 8 k)) h))
    (or-three (eqb s 2) (eqb s 4) (eqb s 8) e)

pub known_small : (s : ℕ) → known_side s ≡ true → (0 < s) × (s ≤ 8)
known_small s h = ⊎_elim (λ e. rw e (omega arith)) (λ h. ⊎_elim (λ e. rw e (omega arith)) (λ e. rw e (omega arith)) h) (known-side s h)

pub index-lt : (s x y : ℕ) → 0 < s → s * (y % s) + x % s < s * s
index-lt s x y p =
    let a = mod-lt x p in
    let b : s * suc (y % s) ≤ s * s = mul-le-mul_left s (mod-lt y p) in
    let e = mul-suc s (y % s) in
    omega arith

-- THE PRODUCT FORM: a sample is white exactly if gray × side × side is at least 256 n + 128
product-white : (s n g : ℕ) → known_side s ≡ true → 256 * n + 128 ≤ g * (s * s) → bound s n ≤ g
unfolding bound
product-white s n g h =
    ⊎_elim (λ e. rw e (λ l. omega arith)) (λ h. ⊎_elim (λ e. rw e (λ l. omega arith)) (λ e. rw e (λ l. omega arith)) h) (known-side s h)

product-black : (s n g : ℕ) → known_side s ≡ true → g * (s * s) < 256 * n + 128 → g < bound s n
unfolding bound
product-black s n g h =
    ⊎_elim (λ e. rw e (λ l. omega arith)) (λ h. ⊎_elim (λ e. rw e (λ l. omega arith)) (λ e. rw e (λ l. omega arith)) h) (known-side s h)

pub product-form : (s n g : ℕ) → known_side s ≡ true → leb (bound s n) g ≡ leb (256 * n + 128) (g * (s * s))
product-form s n g h =
    ⊎_elim
    (λ l. lt-leb (bound s n) g (product-black s n g h l) ∙ sym (lt-leb (256 * n + 128) (g * (s * s)) l))
    (λ l. le-leb (bound s n) g (product-white s n g h l) ∙ sym (le-leb (256 * n + 128) (g * (s * s)) l))
    (lt-or-le (g * (s * s)) (256 * n + 128))

-- an example: at the number 0 of side 8, gray 2 is white (P11)
two-white : leb (bound 8 0) 2 ≡ leb (256 * 0 + 128) (2 * (8 * 8))
two-white = product-form 8 0 2 refl

-- only the table's front is looked at
pub cell-front : (s : ℕ) (t : List ℕ) (x y : ℕ) → 0 < s → cell s (take (s * s) t) x y ≡ cell s t x y
cell-front s t x y p = get_or-take (s * s) t (s * (y % s) + x % s) 0 (index-lt s x y p)

pub area-le : (s : ℕ) → s ≤ 8 → s * s ≤ 64
area-le s h = mul-le-mul {n₁ = s} {m₁ = s} {n₂ = 8} {m₂ = 8} h h

-- a known side's index is within the table
pub index-small : (s x y : ℕ) → known_side s ≡ true → s * (y % s) + x % s < 64
index-small s x y h =
    let k = known_small s h in
    omega (arith, index-lt s x y k.0, area-le s k.1)
