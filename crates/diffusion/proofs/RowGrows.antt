-- A row's dots one after the other: what one dot more leaves.
-- Assumes nothing.
use Prim.Native.Nat.{ℕ, zero, suc, ◌+◌, ◌-◌, ◌*◌, ◌/◌, ◌%◌, ◌^◌, ◌≤◌, ◌<◌}
use mathlib.Core.Path.{◌≡◌, refl, sym, ap, ◌∙◌, subst, subst⁻¹}
use mathlib.Core.List.{List}
use mathlib.Core.Logic.{⊎_elim}
use native.Mathlib.Nat.{pow-suc, lt_of_lt_of_le}
use native.Mathlib.Numerals.{add-one}
use native.Mathlib.Omega.{arith}
use lib.IntN.{ℤ, pos, nat_abs}
use lib.ListN.{length, get_or, set, length-set}
use lib.Pow.{pow_mono}
use lib.Seq.{get_or-set_same, get_or-set_other}
use borrow.Author.Tests.{lt-ltb}
use Rattle.rules.specs.Bits.{appended}
use Rattle.laws.proofs.Tests.{lt-or-le}
use Rattle.rules.proofs.DigitsAppended.{one_more}
use Rattle.diffusion.specs.declared.row.Flow.{Flow}
use Rattle.diffusion.specs.Internal.Sums.{part_of, rest_of, handed_right, value_by, rest_by, rest_before, rest_after, handed_down, sums_of}
use Rattle.diffusion.specs.Internal.Rows.{gray_of, dot_by}
use Rattle.diffusion.specs.Internal.Flow.{parts_of, none_down, DotLent, DotPassed, owed, Still, RowAt, DotsPassed}
use Rattle.diffusion.proofs.SumsCorrect.{part_small, rest-small, right-small, value-small}

-- the parts' digits
pub parts-still : (b : ℕ) → b ≤ 256 → parts_of b ≡ none_down → Still b
parts-still b h e =
    let p = part_small 1 b h in
    let q = part_small 3 b h in
    let r = part_small 5 b h in
    record { one = omega arith; three = omega arith; five = omega arith }

-- the number that the dot at column x stores on its left, where there is a column
pub record SumStored (work : List ℤ) (x n : ℕ) (work' : List ℤ) : Type 0 where
  pub long : length work' ≡ length work
  pub there : (k : ℕ) → k + 1 ≡ x → get_or work' k (pos 0) ≡ pos n
  pub else : (k : ℕ) → (k + 1 ≡ x → ⊥) → get_or work' k (pos 0) ≡ get_or work k (pos 0)

pub sum-none : (work : List ℤ) (x n : ℕ) (work' : List ℤ) → x ≤ 0 → work' ≡ work → SumStored work x n work'
sum-none work x n work' h w =
    record {
      long = ap length w;
      there = λ k e. let z : ⊥ = omega arith in absurd z;
      else = λ k e. ap (λ (l : List ℤ). get_or l k (pos 0)) w;
    }

pub sum_left : (work : List ℤ) (x n : ℕ) (z : ℤ) (work' : List ℤ)
    → 0 < x → x ≤ length work → z ≡ pos n → work' ≡ set work (x - 1) z → SumStored work x n work'
sum_left work x n z work' h l e w =
    record {
      long = ap length w ∙ length-set work (x - 1) z;
      there = λ k o.
          let u : k ≡ x - 1 = omega arith in
          at k w ∙ ap (λ (m : ℕ). get_or (set work (x - 1) z) m (pos 0)) u ∙ get_or-set_same work (x - 1) z (pos 0) (omega arith) ∙ e;
      else = λ k o. at k w ∙ get_or-set_other work (x - 1) k z (pos 0) (λ u. o (omega arith));
    }
  where
    at : {l m : List ℤ} (k : ℕ) → l ≡ m → get_or l k (pos 0) ≡ get_or m k (pos 0)
    at k p = ap (λ (l : List ℤ). get_or l k (pos 0)) p

-- m binary digits
digits_lt : (f : ℕ → ℕ) (m : ℕ) → ((i : ℕ) → i < m → f i ≤ 1) → appended 0 f m < 2 ^ m
unfolding appended
digits_lt f zero h = omega arith
digits_lt f (suc m) h =
    let p = digits_lt f m (λ i l. h i (omega arith)) in
    let q = h m (omega arith) in
    rw (pow-suc 2 m) (omega arith)

-- the flow at a byte's start
pub byte-begins : (gray : List ℕ) (old : List ℤ) (x : ℕ) (f : Flow) (work : List ℤ) → RowAt gray old x f work
    → DotsPassed gray old x x (record { right = f.right; down = f.down; stirred = f.stirred; digits = 0 }) work
unfolding appended
byte-begins gray old x f work a =
    let e : x - x ≡ 0 = omega arith in
    record {
      at = record {
        bytes = a.bytes;
        given = a.given;
        in_row = a.in_row;
        long = a.long;
        right_is = a.right_is;
        down_is = a.down_is;
        handed = a.handed;
        ahead = a.ahead;
        still = a.still;
      };
      digits_is = rw e refl;
    }

module _ (gray : List ℕ) (old : List ℤ) (x : ℕ) (f : Flow) (work : List ℤ) (a : RowAt gray old x f work) where
  abbrev g : ℕ → ℕ
  g = gray_of gray

  abbrev s : ℕ → ℕ
  s = sums_of old

  -- ---- bounds

  small : (i : ℕ) → i < length gray → (g i < 256) × (s i ≤ 144)
  small i h = (a.bytes i, a.given.small i h)

  value-lt : (k : ℕ) → k < length gray → value_by g s k < 512
  value-lt k h = value-small g s k (λ i l. small i (omega arith))

  rest_le : (k : ℕ) → k < length gray → rest_by g s k ≤ 256
  unfolding rest_by
  rest_le k h = rest-small (value_by g s k) (value-lt k h)

  before-le : (k : ℕ) → k ≤ length gray → rest_before g s k ≤ 256
  unfolding rest_before
  before-le zero h = omega arith
  before-le (suc k) h = rest_le k (omega arith)

  pub owed-le : (k : ℕ) → k ≤ length gray → owed g s k ≤ 96
  unfolding owed
  owed-le zero h = omega arith
  owed-le (suc k) h = omega (arith, part_small 1 _ (before-le k (omega arith)), part_small 5 _ (rest_le k (omega arith)))

  -- the digits of a begun byte
  pub digits-small : (b : ℕ) → b ≤ x → x ≤ b + 8 → f.digits ≡ appended 0 (λ i. dot_by gray s (b + i)) (x - b) → f.digits < 2 ^ (x - b)
  digits-small b h k e =
      let l = a.in_row in
      subst (λ (n : ℕ). n < 2 ^ (x - b)) (sym e)
      (digits_lt (λ i. dot_by gray s (b + i)) (x - b) (λ i m. omega (arith, value-lt (b + i) (omega arith))))

  -- ---- the next dot

  module _ (more : x < length gray) where
    -- its sum is as it was handed down
    sum-is : nat_abs (get_or work x (pos 0)) ≡ s x
    sum-is = ap nat_abs (a.ahead x (omega arith))

    pub dot-lent : f.digits < 65536 → DotLent f (get_or work x (pos 0))
    dot-lent h =
        record {
          right_small = rw a.right_is (right-small g s x (λ i l. small i (omega arith)));
          digits_small = h;
          sum_is = a.ahead x (omega arith) ∙ a.given.is x more ∙ ap pos (sym sum-is);
          sum_small = rw sum-is (a.given.small x more);
        }

    value-is : g x + nat_abs (get_or work x (pos 0)) + f.right ≡ value_by g s x
    unfolding value_by
    value-is = rw (sum-is, a.right_is)

    module _ (r : Flow) (p : DotPassed f (g x + nat_abs (get_or work x (pos 0)) + f.right) r) where
      passed : DotPassed f (value_by g s x) r
      passed = subst (λ (v : ℕ). DotPassed f v r) value-is p

      -- three digits: the sum for the column on the left, what is owed next, and the last part
      down_is : r.down ≡ owed g s x + part_of 3 (rest_by g s x) + 256 * owed g s (suc x) + 65536 * part_of 1 (rest_by g s x)
      unfolding rest_by owed
      down_is = omega (arith, passed.down_is, a.down_is)

      pub low-is : r.down % 256 ≡ owed g s x + part_of 3 (rest_by g s x)
      low-is =
          let t = part_small 3 _ (rest_le x more) in
          let o = owed-le x (omega arith) in
          omega (arith, down_is)

      high_is : r.down / 256 ≡ owed g s (suc x) + 256 * part_of 1 (rest_by g s x)
      high_is =
          let t = part_small 3 _ (rest_le x more) in
          let o = owed-le x (omega arith) in
          omega (arith, down_is)

      -- the sum on the left is whole
      whole : (k : ℕ) → k + 1 ≡ x → r.down % 256 ≡ handed_down (length gray) g s k
      unfolding owed handed_down rest_after
      whole k e = low-is ∙ go x refl e
        where
          go : (y : ℕ) → y ≡ x → k + 1 ≡ y → owed g s y + part_of 3 (rest_by g s y) ≡ handed_down (length gray) g s k
          go zero u v = let z : ⊥ = omega arith in absurd z
          go (suc y) u v =
              let o : k ≡ y = omega arith in
              rw (o, lt-ltb (suc y) (length gray) (omega arith)) refl

      right-next : r.right ≡ handed_right g s (suc x)
      unfolding handed_right value_by
      right-next = passed.right_is

      still-next : r.stirred ≡ 0 → (k : ℕ) → k < suc x → Still (rest_by g s k)
      unfolding rest_by
      still-next e k h =
          ⊎_elim
          (λ l. a.still (passed.unstirred e).0 k l)
          (λ l. let o : k ≡ x = omega arith in rw o (parts-still (rest_of (value_by g s x)) (rest_le x more) (passed.unstirred e).1))
          (lt-or-le k x)

      module _ (work' : List ℤ) (st : SumStored work x (r.down % 256) work') where
        pub row_more : RowAt gray old (x + 1) r work'
        unfolding rest_before
        row_more =
            let e = add-one x in
            record {
              bytes = a.bytes;
              given = a.given;
              in_row = omega arith;
              long = st.long ∙ a.long;
              right_is = right-next ∙ ap (handed_right g s) (sym e);
              down_is = rw e high_is;
              handed = λ k h. ⊎_elim
                  (λ (l : k + 1 < x). st.else k (λ u. omega arith) ∙ a.handed k l)
                  (λ (l : x ≤ k + 1). let u : k + 1 ≡ x = omega arith in st.there k u ∙ ap pos (whole k u))
                  (lt-or-le (k + 1) x);
              ahead = λ k h. st.else k (λ u. omega arith) ∙ a.ahead k (omega arith);
              still = λ z k h. still-next z k (omega arith);
            }

        -- one dot more of a byte that was begun at column b
        pub dots-more : (b : ℕ) → b ≤ x → f.digits ≡ appended 0 (λ i. dot_by gray s (b + i)) (x - b) → DotsPassed gray old b (x + 1) r work'
        dots-more b h e =
            let n : x + 1 - b ≡ x - b + 1 = omega arith in
            let o : b + (x - b) ≡ x = omega arith in
            record {
              at = row_more;
              digits_is = passed.digits_is
                  ∙ one_more 0 (λ i. dot_by gray s (b + i)) (x - b) f.digits (value_by g s x / 256) e (ap (dot_by gray s) (sym o))
                  ∙ ap (appended 0 (λ i. dot_by gray s (b + i))) (sym n);
            }

-- the dots of the columns b to x, from a flow at b
pub record DotsRun (gray : List ℕ) (b end : ℕ) (f₀ : Flow) (work₀ : List ℤ) (x : ℕ) (f : Flow) (work : List ℤ) : Type 0 where
  pub from : b ≤ x
  pub to : x ≤ end
  pub passed : (old : List ℤ) → DotsPassed gray old b b f₀ work₀ → DotsPassed gray old b x f work

module _ (gray : List ℕ) (b end : ℕ) (f₀ : Flow) (work₀ : List ℤ) where
  module _ (x : ℕ) (f : Flow) (work : List ℤ) (run : DotsRun gray b end f₀ work₀ x f work) where
    -- a row in which these dots are
    module _ (old : List ℤ) (p : DotsPassed gray old b b f₀ work₀) where
      pub run_long : length work ≡ length work₀
      run_long = (run.passed old p).at.long ∙ sym p.at.long

      digits-fit : x ≤ b + 8 → f.digits < 65536
      digits-fit k =
          let q = run.passed old p in
          let l = run.from in
          lt_of_lt_of_le (digits-small gray old x f work q.at b l k q.digits_is) (pow_mono {i = x - b} {j = 16} (omega arith))

      -- the sum is read as z
      pub run_lent : (z : ℤ) → z ≡ get_or work x (pos 0) → x < length gray → x ≤ b + 8 → DotLent f z
      run_lent z e h k = subst⁻¹ (λ (i : ℤ). DotLent f i) e (dot-lent gray old x f work (run.passed old p).at h (digits-fit k))

    pub run_more : (z : ℤ) → z ≡ get_or work x (pos 0) → (r : Flow) (work' : List ℤ) → x < end → end ≤ length gray
        → DotPassed f (gray_of gray x + nat_abs z + f.right) r → SumStored work x (r.down % 256) work'
        → DotsRun gray b end f₀ work₀ (x + 1) r work'
    run_more z e r work' h k t st =
        let l = run.from in
        let d = subst (λ (i : ℤ). DotPassed f (gray_of gray x + nat_abs i + f.right) r) e t in
        record {
          from = omega arith;
          to = omega arith;
          passed = λ old p.
              let q = run.passed old p in
              dots-more gray old x f work q.at (omega arith) r d work' st b l q.digits_is;
        }

    pub run_end : end ≤ x → (old : List ℤ) → DotsPassed gray old b b f₀ work₀ → DotsPassed gray old b end f work
    run_end h old p =
        let l = run.to in
        let e : x ≡ end = omega arith in
        subst (λ (n : ℕ). DotsPassed gray old b n f work) e (run.passed old p)
