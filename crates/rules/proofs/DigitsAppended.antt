-- Binary digits as they are appended.
-- Assumes nothing.
use Prim.Native.Nat.{ℕ, zero, suc, ◌+◌, ◌-◌, ◌*◌, ◌/◌, ◌^◌, ◌≤◌, ◌<◌}
use mathlib.Core.Path.{◌≡◌, refl, sym, ap, ◌∙◌, subst}
use mathlib.Core.Bool.{Bool, true, false}
use native.Mathlib.Nat.{zero-add, add-zero, add-suc, pow-suc, lt_of_lt_of_le, mul-lt-mul_of_pos_right, mul-one, mul_assoc}
use native.Mathlib.Numerals.{add-one}
use native.Mathlib.Omega.{arith}
use lib.Pow.{pow_mono, pow-add, pow_pos, high}
use lib.Dec.{leb}
use borrow.Author.Tests.{le-leb, lt-leb}
use Rattle.std.specs.Int.{from_bool}
use Rattle.rules.specs.Bits.{bit, appended, digits}
use Rattle.rules.specs.Internal.Kernels.{Packs}

pub bit_le : (b : Bool) → bit b ≤ 1
bit_le true = omega arith
bit_le false = omega arith

-- a test's number is its dot
pub bit_is : (b : Bool) (n : ℕ) → n ≡ from_bool b → n ≡ bit b
bit_is true n e = e
bit_is false n e = e

pub bit-yes : (a b : ℕ) → a ≤ b → 1 ≡ bit (leb a b)
bit-yes a b h = rw (le-leb a b h)

pub bit-no : (a b : ℕ) → b < a → 0 ≡ bit (leb a b)
bit-no a b h = rw (lt-leb a b h)

module _ (begun : ℕ) (f : ℕ → ℕ) where
  pub one_more : (i digits b : ℕ) → digits ≡ appended begun f i → b ≡ f i → digits * 2 + b ≡ appended begun f (i + 1)
  unfolding appended
  one_more i digits b p q = rw (add-one i, p, q)

  pub appended-lt : ((i : ℕ) → f i ≤ 1) → (a m : ℕ) → begun < 2 ^ a → appended begun f m < 2 ^ (a + m)
  unfolding appended
  appended-lt h a zero k = rw add-zero k
  appended-lt h a (suc m) k =
      let p = appended-lt h a m k in
      let q = h m in
      let e : 2 ^ (a + suc m) ≡ 2 ^ (a + m) * 2 = ap (λ (n : ℕ). 2 ^ n) (add-suc a m) ∙ pow-suc 2 (a + m) in
      rw e (omega arith)

  pub appended-fits : ((i : ℕ) → f i ≤ 1) → (n i : ℕ) → Packs begun n → i ≤ n → appended begun f i < 65536
  appended-fits h n i k l =
      let k0 = k.0 in
      lt_of_lt_of_le (appended-lt h 8 i k.1) (pow_mono {i = 8 + i} {j = 16} (omega arith))

-- digits after digits
pub appended-add : (f : ℕ → ℕ) (a m : ℕ) → appended (digits f a) (λ i. f (a + i)) m ≡ digits f (a + m)
unfolding appended
appended-add f a zero = rw add-zero
appended-add f a (suc m) = rw (add-suc, appended-add f a m)

-- the digits begun, and the others below them
pub appended-split : (b : ℕ) (f : ℕ → ℕ) (k : ℕ) → appended b f k ≡ b * 2 ^ k + digits f k
unfolding appended
appended-split b f zero = sym (add-zero (b * 2 ^ 0) ∙ mul-one b)
appended-split b f (suc k) =
    let p = appended-split b f k in
    let r : b * 2 ^ suc k ≡ b * 2 ^ k * 2 = ap (λ (n : ℕ). b * n) (pow-suc 2 k) ∙ sym (mul_assoc b (2 ^ k) 2) in
    omega arith

-- the first digits alone
pub digits-high : (f : ℕ → ℕ) → ((i : ℕ) → f i ≤ 1) → (m k : ℕ) → digits f (m + k) / 2 ^ k ≡ digits f m
digits-high f h m k =
    let g : ℕ → ℕ = λ i. f (m + i) in
    let l : digits g k < 2 ^ k = rw zero-add at (appended-lt 0 g (λ i. h (m + i)) 0 k (omega arith)) in
    ap (λ (n : ℕ). n / 2 ^ k) (sym (appended-add f m k) ∙ appended-split (digits f m) g k) ∙ high (digits f m) k l

-- zeros at the end
pub digits-tail : (f : ℕ → ℕ) (m k : ℕ) → ((i : ℕ) → m ≤ i → f i ≡ 0) → digits f (m + k) ≡ digits f m * 2 ^ k
unfolding appended
digits-tail f m zero h = rw add-zero (sym (mul-one (digits f m)))
digits-tail f m (suc k) h =
    let p = digits-tail f m k h in
    let q = h (m + k) (omega arith) in
    let r : digits f m * 2 ^ suc k ≡ digits f m * 2 ^ k * 2 =
    ap (λ (n : ℕ). digits f m * n) (pow-suc 2 k) ∙ sym (mul_assoc (digits f m) (2 ^ k) 2) in
    rw add-suc (omega arith)

pub appended-ext : (begun : ℕ) (f g : ℕ → ℕ) (m : ℕ) → ((i : ℕ) → i < m → f i ≡ g i) → appended begun f m ≡ appended begun g m
unfolding appended
appended-ext begun f g zero h = refl
appended-ext begun f g (suc m) h =
    let a = appended-ext begun f g m (λ i l. h i (omega arith)) in
    let b = h m (omega arith) in
    cc

-- digits moved up to be the first m of eight
pub shifted-lt : (n m : ℕ) → m ≤ 8 → n < 2 ^ m → n * 2 ^ (8 - m) < 256
shifted-lt n m h k =
    let e : m + (8 - m) ≡ 8 = omega arith in
    subst (λ (t : ℕ). n * 2 ^ (8 - m) < t) (sym (pow-add 2 m (8 - m)) ∙ ap (λ (t : ℕ). 2 ^ t) e)
    (mul-lt-mul_of_pos_right k (pow_pos (8 - m)))
