-- DITHERING BY SUMS IS FLOYD AND STEINBERG'S: the values by sums are the definition's, and so are the sums that a row hands down.
-- Assumes nothing.
use Prim.Native.Nat.{ℕ, zero, suc, ◌+◌, ◌*◌, ◌/◌, ◌%◌, ◌≤◌, ◌<◌}
use mathlib.Core.Path.{◌≡◌, refl, sym, ap, ◌∙◌}
use mathlib.Core.Logic.{⊎_elim}
use native.Mathlib.Omega.{arith}
use native.Mathlib.Nat.{add-mul, mul_assoc, one-mul, mul-le-mul_left}
use borrow.Author.Tests.{lt-ltb, le-ltb, le-leb, lt-leb}
use lib.Dec.{leb}
use lib.IntN.{ℤ, pos, sub_ℕ, ◌+ℤ◌, +ℤ_assoc}
use Rattle.rules.specs.Bits.{bit}
use Rattle.rules.specs.Diffusion.{Scan, to_right, part, value, white, residual, before, after, value_from, handed, row_value, above, value_at}
use Rattle.rules.specs.Rule.{rightwards}
use Rattle.laws.proofs.Tests.{lt-or-le}
use Rattle.rules.proofs.Differences.{sub-eq, sub-add, pos-is, part-is, stepped}
use Rattle.diffusion.specs.Internal.Sums.{part_of, rest_of, handed_right, value_by, rest_by, rest_before, rest_after, handed_down}
use Rattle.diffusion.specs.Internal.Sums.{none, Handed, Level}

-- ---- parts

product-split : (k b : ℕ) → (128 * k + 1) * b ≡ 128 * (k * b) + b
product-split k b = rw (add-mul, mul_assoc, one-mul)

-- k sixteenths of no residual
pub part-of-128 : (k : ℕ) → part_of k 128 ≡ 8 * k
unfolding part_of
part-of-128 k = omega arith

pub part_small : (k b : ℕ) → b ≤ 256 → part_of k b ≤ 16 * k
unfolding part_of
part_small k b h = omega (arith, product-split k b, mul-le-mul_left k h)

pub rest-small : (v : ℕ) → v < 512 → rest_of v ≤ 256
unfolding rest_of
rest-small v h = omega arith

-- ---- bounds

pub right-small : (gray sums : ℕ → ℕ) (x : ℕ) → ((i : ℕ) → i < x → (gray i < 256) × (sums i ≤ 144)) → handed_right gray sums x ≤ 112
unfolding handed_right
right-small gray sums zero h = omega arith
right-small gray sums (suc x) h =
    let small = h x (omega arith) in
    let right = right-small gray sums x (λ i k. h i (omega arith)) in
    part_small 7 _ (rest-small (gray x + sums x + handed_right gray sums x) (omega (arith, small.0, small.1)))

pub value-small : (gray sums : ℕ → ℕ) (x : ℕ) → ((i : ℕ) → i ≤ x → (gray i < 256) × (sums i ≤ 144)) → value_by gray sums x < 512
unfolding value_by
value-small gray sums x h =
    let small = h x (omega arith) in
    omega (arith, small.0, small.1, right-small gray sums x (λ i k. h i (omega arith)))

module _ (w : ℕ) (gray sums : ℕ → ℕ) (small : (i : ℕ) → i < w → (gray i < 256) × (sums i ≤ 144)) where
  value_by-small : (x : ℕ) → x < w → value_by gray sums x < 512
  value_by-small x k = value-small gray sums x (λ i l. small i (omega arith))

  rest_by-small : (x : ℕ) → x < w → rest_by gray sums x ≤ 256
  unfolding rest_by
  rest_by-small x k = rest-small (value_by gray sums x) (value_by-small x k)

  rest_before-small : (x : ℕ) → x < w → rest_before gray sums x ≤ 256
  unfolding rest_before
  rest_before-small zero k = omega arith
  rest_before-small (suc x) k = rest_by-small x (omega arith)

  rest_after-small : (x : ℕ) → rest_after w gray sums x ≤ 256
  unfolding rest_after
  rest_after-small x =
      ⊎_elim
      (λ k. rw (lt-ltb (suc x) w k) (rest_by-small (suc x) k))
      (λ k. rw (le-ltb (suc x) w k) (omega arith))
      (lt-or-le (suc x) w)

  pub down-small : (x : ℕ) → x < w → handed_down w gray sums x ≤ 144
  unfolding handed_down
  down-small x k =
      omega (arith, part_small 1 _ (rest_before-small x k), part_small 5 _ (rest_by-small x k), part_small 3 _ (rest_after-small x))

-- ---- gray and sums that agree on the first w columns give the same

handed_right-same : (gray gray' sums sums' : ℕ → ℕ) (x : ℕ) → ((i : ℕ) → i < x → (gray i ≡ gray' i) × (sums i ≡ sums' i))
    → handed_right gray sums x ≡ handed_right gray' sums' x
unfolding handed_right
handed_right-same gray gray' sums sums' zero h = refl
handed_right-same gray gray' sums sums' (suc x) h =
    rw ((h x (omega arith)).0, (h x (omega arith)).1, handed_right-same gray gray' sums sums' x (λ i k. h i (omega arith)))

module _ (w : ℕ) (gray gray' sums sums' : ℕ → ℕ) (same : (i : ℕ) → i < w → (gray i ≡ gray' i) × (sums i ≡ sums' i)) where
  pub value_same : (x : ℕ) → x < w → value_by gray sums x ≡ value_by gray' sums' x
  unfolding value_by
  value_same x k = rw ((same x k).0, (same x k).1, handed_right-same gray gray' sums sums' x (λ i l. same i (omega arith)))

  rest_by-same : (x : ℕ) → x < w → rest_by gray sums x ≡ rest_by gray' sums' x
  unfolding rest_by
  rest_by-same x k = ap rest_of (value_same x k)

  rest_before-same : (x : ℕ) → x < w → rest_before gray sums x ≡ rest_before gray' sums' x
  unfolding rest_before
  rest_before-same zero k = refl
  rest_before-same (suc x) k = rest_by-same x (omega arith)

  rest_after-same : (x : ℕ) → rest_after w gray sums x ≡ rest_after w gray' sums' x
  unfolding rest_after
  rest_after-same x =
      ⊎_elim
      (λ k. rw (lt-ltb (suc x) w k) (rest_by-same (suc x) k))
      (λ k. rw (le-ltb (suc x) w k))
      (lt-or-le (suc x) w)

  pub down-same : (x : ℕ) → x < w → handed_down w gray sums x ≡ handed_down w gray' sums' x
  unfolding handed_down
  down-same x k = rw (rest_before-same x k, rest_by-same x k, rest_after-same x)

-- ---- a row of black and white to which nothing is handed: its dots are those of the threshold 128, and nothing is handed down

pub rest-none : (g : ℕ) → g < 256 → g % 255 ≡ 0 → rest_of (g + 72 + 56) ≡ 128
unfolding rest_of
rest-none g h e = omega arith

module _ (w : ℕ) (gray sums : ℕ → ℕ) (level : Level w sums) (plain : (i : ℕ) → i < w → (gray i < 256) × (gray i % 255 ≡ 0)) where
  handed_right-level : (x : ℕ) → x ≤ w → handed_right gray sums x ≡ 56
  unfolding handed_right
  handed_right-level zero k = refl
  handed_right-level (suc x) k =
      let p = plain x (omega arith) in
      rw (level x (omega arith), handed_right-level x (omega arith), rest-none (gray x) p.0 p.1) (part-of-128 7)

  pub value_by-level : (x : ℕ) → x < w → value_by gray sums x ≡ gray x + 72 + 56
  unfolding value_by
  value_by-level x k = rw (level x k, handed_right-level x (omega arith))

  rest_by-level : (x : ℕ) → x < w → rest_by gray sums x ≡ 128
  unfolding rest_by
  rest_by-level x k = ap rest_of (value_by-level x k) ∙ rest-none (gray x) (plain x k).0 (plain x k).1

  rest_before-level : (x : ℕ) → x < w → rest_before gray sums x ≡ 128
  unfolding rest_before
  rest_before-level zero k = refl
  rest_before-level (suc x) k = rest_by-level x (omega arith)

  rest_after-level : (x : ℕ) → rest_after w gray sums x ≡ 128
  unfolding rest_after
  rest_after-level x =
      ⊎_elim
      (λ k. rw (lt-ltb (suc x) w k) (rest_by-level (suc x) k))
      (λ k. rw (le-ltb (suc x) w k))
      (lt-or-le (suc x) w)

  pub level-dot : (x : ℕ) → x < w → value_by gray sums x / 256 ≡ bit (leb 128 (gray x))
  level-dot x k =
      let value = value_by-level x k in
      let small = (plain x k).0 in
      ⊎_elim
      (λ l. rw (lt-leb 128 (gray x) l) (omega (arith, (plain x k).1)))
      (λ l. rw (le-leb 128 (gray x) l) (omega (arith, (plain x k).1)))
      (lt-or-le (gray x) 128)

  pub level-down : Level w (handed_down w gray sums)
  unfolding handed_down
  level-down x k =
      rw (rest_before-level x k, rest_by-level x k, rest_after-level x) (omega (arith, part-of-128 1, part-of-128 5, part-of-128 3))

-- a row of one column
pub one_down : (gray sums : ℕ → ℕ) → handed_down 1 gray sums 0 ≡ 32 + part_of 5 (rest_by gray sums 0)
unfolding handed_down rest_before rest_after
one_down gray sums = omega (arith, part-of-128 1, part-of-128 3)

-- ---- one row by the definition, below residuals of which the sums are known

four-sum : (a b c d : ℤ) → a +ℤ b +ℤ c +ℤ d ≡ a +ℤ (b +ℤ c +ℤ d)
four-sum a b c d = ap (λ (z : ℤ). z +ℤ d) (+ℤ_assoc a b c) ∙ +ℤ_assoc a (b +ℤ c) d

-- a value, from what the row hands to it and the sum of what is handed down to it
value_of : (g : ℕ) (l c a r : ℤ) (p s : ℕ) → part 7 l ≡ sub_ℕ p 56 → sub_ℕ s 72 ≡ part 1 c +ℤ part 5 a +ℤ part 3 r
    → value g l c a r ≡ sub_ℕ (g + s + p) 128
unfolding value
value_of g l c a r p s el es =
    four-sum (pos g +ℤ part 7 l) (part 1 c) (part 5 a) (part 3 r) ∙
    ap (λ (z : ℤ). pos g +ℤ part 7 l +ℤ z) (sym es) ∙
    ap (λ (z : ℤ). pos g +ℤ z +ℤ sub_ℕ s 72) el ∙
    ap (λ (z : ℤ). z +ℤ sub_ℕ p 56 +ℤ sub_ℕ s 72) (pos-is g) ∙
    ap (λ (z : ℤ). z +ℤ sub_ℕ s 72) (sub-add g 0 p 56) ∙
    sub-add (g + p) 56 s 72 ∙
    sub-eq (g + p + s) 128 (g + s + p) 128 (omega arith)

part_held : (k b : ℕ) → b ≤ 256 → part k (sub_ℕ b 128) ≡ sub_ℕ (part_of k b) (8 * k)
unfolding part_of
part_held k b h = part-is k b h

residual-of : (z : ℤ) (v : ℕ) → z ≡ sub_ℕ v 128 → v < 512 → residual z ≡ sub_ℕ (rest_of v) 128
unfolding rest_of
residual-of z v e h = (stepped v e (omega arith)).rest_is.is

module _ (w : ℕ) (gray : ℕ → ℕ) (upper : ℕ → ℤ) (sums : ℕ → ℕ)
    (summed : (x : ℕ) → x < w
    → sub_ℕ (sums x) none ≡ part 1 (before to_right w upper x) +ℤ part 5 (upper x) +ℤ part 3 (after to_right w upper x))
    (small : (i : ℕ) → i < w → (gray i < 256) × (sums i ≤ 144)) where
  from-sums : (x : ℕ) → x < w → (l : ℤ) → part 7 l ≡ sub_ℕ (handed_right gray sums x) 56
      → value_from to_right w gray upper x l ≡ sub_ℕ (value_by gray sums x) 128
  unfolding value_from value_by
  from-sums x k l e =
      let b = before to_right w upper x in
      let a = after to_right w upper x in
      value_of (gray x) l b (upper x) a (handed_right gray sums x) (sums x) e (summed x k)

  right_is : (x : ℕ) → x ≤ w → part 7 (handed to_right to_right w gray upper x) ≡ sub_ℕ (handed_right gray sums x) 56
  unfolding handed handed_right part value_by
  right_is zero k = refl
  right_is (suc x) k =
      let e = from-sums x (omega arith) (handed to_right to_right w gray upper x) (right_is x (omega arith)) in
      let v = value_by-small w gray sums small x (omega arith) in
      ap (part 7) (residual-of _ (value_by gray sums x) e v) ∙ part_held 7 (rest_of (value_by gray sums x)) (rest-small _ v)

  row-value-is : (x : ℕ) → x < w → row_value to_right to_right w gray upper x ≡ sub_ℕ (value_by gray sums x) 128
  unfolding row_value
  row-value-is x k = from-sums x k (handed to_right to_right w gray upper x) (right_is x (omega arith))

  row-rest-is : (x : ℕ) → x < w → residual (row_value to_right to_right w gray upper x) ≡ sub_ℕ (rest_by gray sums x) 128
  unfolding rest_by
  row-rest-is x k = residual-of _ (value_by gray sums x) (row-value-is x k) (value_by-small w gray sums small x k)

-- a row's residuals, held: the three parts that they hand down to a column
module _ (w : ℕ) (gray sums : ℕ → ℕ) (row : ℕ → ℤ) (rests : (x : ℕ) → x < w → row x ≡ sub_ℕ (rest_by gray sums x) 128)
    (small : (i : ℕ) → i < w → (gray i < 256) × (sums i ≤ 144)) where
  before-is : (x : ℕ) → x < w → before to_right w row x ≡ sub_ℕ (rest_before gray sums x) 128
  unfolding rest_before
  before-is zero k = refl
  before-is (suc x) k = rests x (omega arith)

  after_is : (x : ℕ) → after to_right w row x ≡ sub_ℕ (rest_after w gray sums x) 128
  unfolding rest_after
  after_is x =
      ⊎_elim
      (λ k. rw (lt-ltb (suc x) w k) (rests (suc x) k))
      (λ k. rw (le-ltb (suc x) w k))
      (lt-or-le (suc x) w)

  down_is : (x : ℕ) → x < w
      → sub_ℕ (handed_down w gray sums x) none ≡ part 1 (before to_right w row x) +ℤ part 5 (row x) +ℤ part 3 (after to_right w row x)
  unfolding handed_down
  down_is x k =
      let b = rest_before gray sums x in
      let r = rest_by gray sums x in
      let a = rest_after w gray sums x in
      let eb = ap (part 1) (before-is x k) ∙ part_held 1 b (rest_before-small w gray sums small x k) in
      let er = ap (part 5) (rests x k) ∙ part_held 5 r (rest_by-small w gray sums small x k) in
      let ea = ap (part 3) (after_is x) ∙ part_held 3 a (rest_after-small w gray sums small x) in
      sym (
      ap (λ (z : ℤ). z +ℤ part 5 (row x) +ℤ part 3 (after to_right w row x)) eb ∙
      ap (λ (z : ℤ). sub_ℕ (part_of 1 b) 8 +ℤ z +ℤ part 3 (after to_right w row x)) er ∙
      ap (λ (z : ℤ). sub_ℕ (part_of 1 b) 8 +ℤ sub_ℕ (part_of 5 r) 40 +ℤ z) ea ∙
      ap (λ (z : ℤ). z +ℤ sub_ℕ (part_of 3 a) 24) (sub-add (part_of 1 b) 8 (part_of 5 r) 40) ∙
      sub-add (part_of 1 b + part_of 5 r) 48 (part_of 3 a) 24)

-- ---- the definition's numbers

-- nothing is handed to the first row
pub handed-first : (w : ℕ) (scan : Scan) → Handed w scan 0 (λ x. none)
unfolding above part
handed-first w scan zero h =
    ⊎_elim (λ k. rw (lt-ltb 1 w k)) (λ k. rw (le-ltb 1 w k)) (lt-or-le 1 w)
handed-first w scan (suc x) h =
    ⊎_elim (λ k. rw (lt-ltb (suc (suc x)) w k)) (λ k. rw (le-ltb (suc (suc x)) w k)) (lt-or-le (suc (suc x)) w)

module _ (w : ℕ) (scan : Scan) (bytes : (x y : ℕ) → scan x y < 256) (y : ℕ) (sums : ℕ → ℕ) (is : Handed w scan y sums)
    (low : (x : ℕ) → x < w → sums x ≤ 144) where
  row_small : (i : ℕ) → i < w → (scan i y < 256) × (sums i ≤ 144)
  row_small i k = (bytes i y, low i k)

  -- the value of each dot of row y
  pub value-correct : (x : ℕ) → x < w → value_at rightwards w scan x y ≡ sub_ℕ (value_by (λ c. scan c y) sums x) 128
  unfolding value_at
  value-correct x k = row-value-is w (λ c. scan c y) (above rightwards w scan y) sums is row_small x k

  -- the same as a bit
  pub dot-correct : (x : ℕ) → x < w → bit (white (value_at rightwards w scan x y)) ≡ value_by (λ c. scan c y) sums x / 256
  dot-correct x k =
      let v = value_by-small w (λ c. scan c y) sums row_small x k in
      sym (stepped (value_by (λ c. scan c y) sums x) (value-correct x k) (omega arith)).dot_is

  above-is : (x : ℕ) → x < w → above rightwards w scan (suc y) x ≡ sub_ℕ (rest_by (λ c. scan c y) sums x) 128
  unfolding above
  above-is x k = row-rest-is w (λ c. scan c y) (above rightwards w scan y) sums is row_small x k

  -- what row y hands down
  pub handed-next : Handed w scan (suc y) (handed_down w (λ c. scan c y) sums)
  handed-next x k = down_is w (λ c. scan c y) sums (above rightwards w scan (suc y)) above-is row_small x k
