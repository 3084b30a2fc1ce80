-- Eight samples compared with a bound at once: the dot of each is the highest bit of its byte.
-- Assumes nothing.
use Prim.Native.Nat.{ℕ, zero, suc, ◌+◌, ◌-◌, ◌*◌, ◌/◌, ◌%◌, ◌≤◌, ◌<◌}
use mathlib.Core.Path.{◌≡◌, refl, sym, ap, ap₂, ◌∙◌}
use mathlib.Core.Logic.{⊎_elim}
use native.Mathlib.Nat.{lt_of_le_of_lt}
use native.Mathlib.Omega.{arith}
use lib.Bits.{bit_and, bit_or, and_shr, or_shr, and_high, and_le_l, or_lt, or_block, or_comm, or_zero_r, or_add_and}
use lib.Dec.{leb}
use lib.Pow.{split}
use borrow.Author.Tests.{le-leb, lt-leb}
use Rattle.rules.specs.Bits.{bit}
use Rattle.rules.specs.Internal.Words.{bytes, Below}
use Rattle.laws.proofs.Tests.{lt-or-le}
use Rattle.rules.proofs.DigitsAppended.{bit-yes, bit-no}
use Rattle.rules.proofs.Words.{bytes-ext, bytes-add, bytes-times, bytes-and, bytes-or}

-- the highest bit of each byte, and the lowest
abbrev pub tops : ℕ
tops = 0x8080808080808080

abbrev pub ones : ℕ
ones = 0x0101010101010101

-- no byte of the difference borrows
pub low_fits : (w c : ℕ) → c < 128 → c * ones ≤ bit_or w tops
low_fits w c h =
    let a = or_add_and w tops in
    let b = and_le_l w tops in
    omega arith

-- ---- one byte

one-or : (p : ℕ) → p < 2 → bit_or 1 p ≡ 1
one-or zero h = refl
one-or (suc zero) h = refl
one-or (suc (suc p)) h = let z : ⊥ = omega arith in absurd z

high_bit : (y : ℕ) → y < 256 → bit_and y 128 ≡ y / 128 * 128
high_bit y h =
    let e : y / 128 % 2 ≡ y / 128 = omega arith in
    and_high y 1 7 ∙ ap (λ (n : ℕ). n * 128) e

raised : (x : ℕ) → x < 256 → bit_or x 128 ≡ 128 + x % 128
raised x h =
    let e : 1 * 128 + x % 128 ≡ 128 + x % 128 = omega arith in
    ap (λ (n : ℕ). bit_or n 128) (sym (split x 7))
    ∙ or_block 7 (x / 128) 1 (x % 128) 0 (omega arith) (omega arith)
    ∙ ap₂ (λ (p q : ℕ). p * 128 + q) (or_comm (x / 128) 1 ∙ one-or (x / 128) (omega arith)) (or_zero_r (x % 128))
    ∙ e

half : (x : ℕ) → x < 256 → x / 128 ≡ bit (leb 128 x)
half x h =
    ⊎_elim
    (λ (l : x < 128). let e : x / 128 ≡ 0 = omega arith in e ∙ bit-no 128 x l)
    (λ (l : 128 ≤ x). let e : x / 128 ≡ 1 = omega arith in e ∙ bit-yes 128 x l)
    (lt-or-le x 128)

-- its highest bit says whether x's other bits are at least those of t
abbrev low : ℕ → ℕ → ℕ
low t x = 128 + x % 128 - t % 128

module _ (t x : ℕ) (small : x < 256) where
  or-bits : t < 128 → bit_or (x / 128) (low t x / 128) ≡ bit (leb t x)
  or-bits h =
      ⊎_elim
      (λ l. let a : x / 128 ≡ 0 = omega arith in let b : low t x / 128 ≡ 0 = omega arith in rw (a, b, lt-leb t x l))
      (λ l. ⊎_elim
      (λ k. let a : x / 128 ≡ 0 = omega arith in let b : low t x / 128 ≡ 1 = omega arith in rw (a, b, le-leb t x l))
      (λ k. let a : x / 128 ≡ 1 = omega arith in rw (a, le-leb t x l) (one-or (low t x / 128) (omega arith)))
      (lt-or-le x 128))
      (lt-or-le x t)

  and-bits : 128 ≤ t → t < 256 → bit_and (x / 128) (low t x / 128) ≡ bit (leb t x)
  and-bits h g =
      ⊎_elim
      (λ l. ⊎_elim
      (λ k. let a : x / 128 ≡ 0 = omega arith in rw (a, lt-leb t x l))
      (λ k. let a : x / 128 ≡ 1 = omega arith in let b : low t x / 128 ≡ 0 = omega arith in rw (a, b, lt-leb t x l))
      (lt-or-le x 128))
      (λ l. let a : x / 128 ≡ 1 = omega arith in let b : low t x / 128 ≡ 1 = omega arith in rw (a, b, le-leb t x l))
      (lt-or-le x t)

  or-dot : t < 128 → bit_and (bit_or x (low t x)) 128 ≡ bit (leb t x) * 128
  or-dot h =
      high_bit (bit_or x (low t x)) (or_lt 8 x (low t x) small (omega arith)) ∙ ap (λ (n : ℕ). n * 128) (or_shr x (low t x) 7 ∙ or-bits h)

  and-dot : 128 ≤ t → t < 256 → bit_and (bit_and x (low t x)) 128 ≡ bit (leb t x) * 128
  and-dot h g =
      let b = and_le_l x (low t x) in
      high_bit (bit_and x (low t x)) (omega arith) ∙ ap (λ (n : ℕ). n * 128) (and_shr x (low t x) 7 ∙ and-bits h g)

-- ---- eight bytes

module _ (t : ℕ) (f : ℕ → ℕ) (small : Below 256 f) where
  abbrev lows : ℕ → ℕ
  lows i = low t (f i)

  abbrev dots : ℕ → ℕ
  dots i = bit (leb t (f i))

  tops-small : Below 256 (λ i. 128)
  tops-small i = omega arith

  lows-small : Below 256 lows
  lows-small i = omega arith

  ones-are : (c : ℕ) → bytes (λ i. c) 8 ≡ c * ones
  unfolding bytes
  ones-are c = omega arith

  tops_are : tops ≡ bytes (λ i. 128) 8
  unfolding bytes
  tops_are = refl

  raised-are : bit_or (bytes f 8) tops ≡ bytes (λ i. lows i + t % 128) 8
  raised-are =
      ap (bit_or (bytes f 8)) tops_are
      ∙ bytes-or f (λ i. 128) 8 small tops-small
      ∙ bytes-ext (λ i. bit_or (f i) 128) (λ i. lows i + t % 128) 8 (λ i l. raised (f i) (small i) ∙ omega arith)

  lows-are : bit_or (bytes f 8) tops - t % 128 * ones ≡ bytes lows 8
  lows-are =
      let a = raised-are in
      let b = bytes-add lows (λ i. t % 128) 8 in
      let c = ones-are (t % 128) in
      omega arith

  -- the dots, as the highest bits
  raised-dots : (g : ℕ → ℕ) → Below 256 g → ((i : ℕ) → bit_and (g i) 128 ≡ dots i * 128) → bit_and (bytes g 8) tops ≡ bytes dots 8 * 128
  raised-dots g h e =
      ap (bit_and (bytes g 8)) tops_are
      ∙ bytes-and g (λ i. 128) 8 h tops-small
      ∙ bytes-ext (λ i. bit_and (g i) 128) (λ i. dots i * 128) 8 (λ i l. e i)
      ∙ bytes-times 128 dots 8

  pub dots-below : t < 128 → bit_and (bit_or (bytes f 8) (bit_or (bytes f 8) tops - t % 128 * ones)) tops ≡ bytes dots 8 * 128
  dots-below h =
      ap (λ (n : ℕ). bit_and n tops) (ap (bit_or (bytes f 8)) lows-are ∙ bytes-or f lows 8 small lows-small)
      ∙ raised-dots (λ i. bit_or (f i) (lows i)) (λ i. or_lt 8 (f i) (lows i) (small i) (lows-small i)) (λ i. or-dot t (f i) (small i) h)

  pub dots-above : 128 ≤ t → t < 256 → bit_and (bit_and (bytes f 8) (bit_or (bytes f 8) tops - t % 128 * ones)) tops ≡ bytes dots 8 * 128
  dots-above h g =
      ap (λ (n : ℕ). bit_and n tops) (ap (bit_and (bytes f 8)) lows-are ∙ bytes-and f lows 8 small lows-small)
      ∙ raised-dots (λ i. bit_and (f i) (lows i)) (λ i. lt_of_le_of_lt (and_le_l (f i) (lows i)) (small i))
      (λ i. and-dot t (f i) (small i) h g)

-- for the bound 128 the samples' own highest bits
pub half-dots : (f : ℕ → ℕ) → Below 256 f → bit_and (bytes f 8) tops ≡ bytes (λ i. bit (leb 128 (f i))) 8 * 128
half-dots f small =
    raised-dots 128 f small f small (λ i. high_bit (f i) (small i) ∙ ap (λ (n : ℕ). n * 128) (half (f i) (small i)))
