-- Numbers with a byte for each sample or dot.
-- Assumes nothing.
use Prim.Native.Nat.{ℕ, zero, suc, ◌+◌, ◌*◌, ◌^◌, ◌<◌}
use mathlib.Core.Path.{◌≡◌, refl, sym, ap, ◌∙◌}
use native.Mathlib.Nat.{mul_assoc, add-mul, zero-mul, one-mul, mul-one, zero-add, add-zero, suc-add, mul_right_comm}
use native.Mathlib.Omega.{arith}
use lib.Bits.{bit_and, bit_or, and_block, or_block}
use lib.Pow.{pow-add}
use Rattle.rules.specs.Internal.Words.{bytes, Below}

pub bytes-ext : (f g : ℕ → ℕ) (n : ℕ) → ((i : ℕ) → i < n → f i ≡ g i) → bytes f n ≡ bytes g n
unfolding bytes
bytes-ext f g zero h = refl
bytes-ext f g (suc n) h =
    let a = bytes-ext (λ i. f (suc i)) (λ i. g (suc i)) n (λ i l. h (suc i) (omega arith)) in
    let b = h 0 (omega arith) in
    omega (arith, a, b)

-- no other values have this number
pub bytes_same : (f g : ℕ → ℕ) (n : ℕ) → Below 256 f → Below 256 g → bytes f n ≡ bytes g n → (i : ℕ) → i < n → f i ≡ g i
unfolding bytes
bytes_same f g zero hf hg e i l = let z : ⊥ = omega arith in absurd z
bytes_same f g (suc n) hf hg e zero l = omega (arith, hf 0, hg 0)
bytes_same f g (suc n) hf hg e (suc i) l =
    bytes_same (λ j. f (suc j)) (λ j. g (suc j)) n (λ j. hf (suc j)) (λ j. hg (suc j)) (omega (arith, hf 0, hg 0)) i (omega arith)

-- ---- the first bytes alone

-- one byte more below
up : (n k : ℕ) → n * 2 ^ (8 * suc k) ≡ n * 2 ^ (8 * k) * 256
up n k =
    let e : 8 * suc k ≡ 8 * k + 8 = omega arith in
    ap (λ (m : ℕ). n * 2 ^ m) e ∙ ap (λ (m : ℕ). n * m) (pow-add 2 (8 * k) 8) ∙ sym (mul_assoc n (2 ^ (8 * k)) 256)

pub bytes_lt : (f : ℕ → ℕ) → Below 256 f → (n : ℕ) → bytes f n < 2 ^ (8 * n)
unfolding bytes
bytes_lt f h zero = omega arith
bytes_lt f h (suc n) =
    let p = bytes_lt (λ i. f (suc i)) (λ i. h (suc i)) n in
    let q = h 0 in
    let e : 2 ^ (8 * suc n) ≡ 2 ^ (8 * n) * 256 =
    sym (one-mul (2 ^ (8 * suc n))) ∙ up 1 n ∙ ap (λ (m : ℕ). m * 256) (one-mul (2 ^ (8 * n))) in
    omega arith

-- what stands above m bytes
bytes-split : (f : ℕ → ℕ) (m k : ℕ) → bytes f (m + k) ≡ bytes (λ i. f (m + i)) k * 2 ^ (8 * m) + bytes f m
unfolding bytes
bytes-split f zero k =
    let e = bytes-ext f (λ i. f (0 + i)) k (λ i _. ap f (sym (zero-add i))) in
    rw zero-add (e ∙ sym (mul-one (bytes (λ i. f (0 + i)) k)) ∙ sym (add-zero (bytes (λ i. f (0 + i)) k * 1)))
bytes-split f (suc m) k =
    let p = bytes-split (λ i. f (suc i)) m k in
    let q = ap (λ (n : ℕ). n * 2 ^ (8 * m)) (bytes-ext (λ i. f (suc (m + i))) (λ i. f (suc m + i)) k (λ i _. ap f (sym (suc-add m i)))) in
    let e = up (bytes (λ i. f (suc m + i)) k) m in
    rw suc-add (omega arith)

-- a byte more above
pub bytes_next : (f : ℕ → ℕ) (n : ℕ) → bytes f n + f n * 2 ^ (8 * n) ≡ bytes f (n + 1)
unfolding bytes
bytes_next f n =
    let e : 0 * 256 + f (n + 0) ≡ f n = omega (arith, ap f (add-zero n)) in
    let p : bytes f (n + 1) ≡ (0 * 256 + f (n + 0)) * 2 ^ (8 * n) + bytes f n = bytes-split f n 1 in
    let q = ap (λ (m : ℕ). m * 2 ^ (8 * n)) e in
    omega arith

bytes-none : (f : ℕ → ℕ) (n : ℕ) → ((i : ℕ) → i < n → f i ≡ 0) → bytes f n ≡ 0
unfolding bytes
bytes-none f zero h = refl
bytes-none f (suc n) h =
    let a = bytes-none (λ i. f (suc i)) n (λ i l. h (suc i) (omega arith)) in
    let b = h 0 (omega arith) in
    omega arith

-- zeros behind them
pub bytes-past : (f : ℕ → ℕ) (m k : ℕ) → ((i : ℕ) → i < k → f (m + i) ≡ 0) → bytes f (m + k) ≡ bytes f m
bytes-past f m k h =
    bytes-split f m k
    ∙ ap (λ (n : ℕ). n * 2 ^ (8 * m) + bytes f m) (bytes-none (λ i. f (m + i)) k h)
    ∙ ap (λ (n : ℕ). n + bytes f m) (zero-mul (2 ^ (8 * m)))
    ∙ zero-add (bytes f m)

-- ---- bytes one by one

pub bytes-add : (f g : ℕ → ℕ) (n : ℕ) → bytes (λ i. f i + g i) n ≡ bytes f n + bytes g n
unfolding bytes
bytes-add f g zero = refl
bytes-add f g (suc n) = let e = bytes-add (λ i. f (suc i)) (λ i. g (suc i)) n in omega arith

pub bytes-times : (c : ℕ) (f : ℕ → ℕ) (n : ℕ) → bytes (λ i. f i * c) n ≡ bytes f n * c
unfolding bytes
bytes-times c f zero = sym (zero-mul c)
bytes-times c f (suc n) =
    let e = bytes-times c (λ i. f (suc i)) n in
    let a = add-mul (bytes (λ i. f (suc i)) n * 256) (f 0) c in
    let b = mul_right_comm (bytes (λ i. f (suc i)) n) 256 c in
    omega arith

-- an operation that takes runs of bits apart takes bytes apart
module _ (op : ℕ → ℕ → ℕ) (none : op 0 0 ≡ 0)
    (block : (k a b r s : ℕ) → r < 2 ^ k → s < 2 ^ k → op (a * 2 ^ k + r) (b * 2 ^ k + s) ≡ op a b * 2 ^ k + op r s) where
  apart : (f g : ℕ → ℕ) (n : ℕ) → Below 256 f → Below 256 g → op (bytes f n) (bytes g n) ≡ bytes (λ i. op (f i) (g i)) n
  unfolding bytes
  apart f g zero hf hg = none
  apart f g (suc n) hf hg =
      block 8 (bytes (λ i. f (suc i)) n) (bytes (λ i. g (suc i)) n) (f 0) (g 0) (hf 0) (hg 0)
      ∙ ap (λ (x : ℕ). x * 256 + op (f 0) (g 0))
      (apart (λ i. f (suc i)) (λ i. g (suc i)) n (λ i. hf (suc i)) (λ i. hg (suc i)))

pub bytes-and : (f g : ℕ → ℕ) (n : ℕ) → Below 256 f → Below 256 g → bit_and (bytes f n) (bytes g n) ≡ bytes (λ i. bit_and (f i) (g i)) n
bytes-and = apart bit_and refl and_block

pub bytes-or : (f g : ℕ → ℕ) (n : ℕ) → Below 256 f → Below 256 g → bit_or (bytes f n) (bytes g n) ≡ bytes (λ i. bit_or (f i) (g i)) n
bytes-or = apart bit_or refl or_block
