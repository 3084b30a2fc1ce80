-- A plane's bytes by their row and their place in it: eight dots, or a row's last dots and zeros.
-- Assumes nothing.
use Prim.Native.Nat.{ℕ, ◌+◌, ◌-◌, ◌*◌, ◌/◌, ◌%◌, ◌^◌, ◌≤◌, ◌<◌}
use mathlib.Core.Path.{◌≡◌, sym, ap, ◌∙◌}
use mathlib.Core.Logic.{⊎_elim}
use native.Mathlib.Nat.{mul-add-div_right, mul-add-mod_self_right, mod-eq_of_lt, div-eq_of_lt, add-zero}
use native.Mathlib.Omega.{arith}
use lib.Bits.{bit_and}
use borrow.Author.Tests.{lt-ltb, le-ltb}
use Rattle.image.specs.Geometry.{row_bytes, padding_bits, padding_mask}
use Rattle.image.proofs.MaskClears.{mask_low}
use Rattle.laws.proofs.Tests.{lt-or-le}
use Rattle.rules.specs.Bits.{digits, appended}
use Rattle.rules.specs.Packed.{padded_bit, byte_at}
use Rattle.rules.proofs.DigitsAppended.{appended-ext, appended-lt, digits-tail, digits-high}

-- ---- a number by row and column

module _ (w q c : ℕ) (h : c < w) where
  pub div-at : (q * w + c) / w ≡ q
  div-at = let p : 0 < w = omega arith in rw (mul-add-div_right p q c, div-eq_of_lt h, add-zero)

  pub mod-at : (q * w + c) % w ≡ c
  mod-at = rw (mul-add-mod_self_right q w c, mod-eq_of_lt h)

-- ---- a byte's dots

pub bit_in : (w : ℕ) (d : ℕ → ℕ) (r c : ℕ) → c < w → padded_bit w d r c ≡ d (r * w + c)
unfolding padded_bit
bit_in w d r c h = rw (lt-ltb c w h)

pub bit_past : (w : ℕ) (d : ℕ → ℕ) (r c : ℕ) → w ≤ c → padded_bit w d r c ≡ 0
unfolding padded_bit
bit_past w d r c h = rw (le-ltb c w h)

pub byte-at : (w : ℕ) (d : ℕ → ℕ) (q b : ℕ) → b < row_bytes w → byte_at w d (q * row_bytes w + b) ≡ digits (λ i. padded_bit w d q (8 * b + i)) 8
unfolding byte_at
byte-at w d q b h = rw (div-at (row_bytes w) q b h, mod-at (row_bytes w) q b h)

-- row q of one plane and row r of another have the same dots
module _ (w : ℕ) (d e : ℕ → ℕ) (q r : ℕ) (same : (c : ℕ) → c < w → d (q * w + c) ≡ e (r * w + c)) where
  bit-same : (c : ℕ) → padded_bit w d q c ≡ padded_bit w e r c
  bit-same c =
      ⊎_elim
      (λ (k : c < w). bit_in w d q c k ∙ same c k ∙ sym (bit_in w e r c k))
      (λ (k : w ≤ c). bit_past w d q c k ∙ sym (bit_past w e r c k))
      (lt-or-le c w)

  pub byte-same : (b : ℕ) → b < row_bytes w → byte_at w d (q * row_bytes w + b) ≡ byte_at w e (r * row_bytes w + b)
  byte-same b l =
      byte-at w d q b l
      ∙ appended-ext 0 (λ i. padded_bit w d q (8 * b + i)) (λ i. padded_bit w e r (8 * b + i)) 8 (λ i k. bit-same (8 * b + i))
      ∙ sym (byte-at w e r b l)

pub first-row : (w : ℕ) (d : ℕ → ℕ) (b : ℕ) → byte_at w d (0 * row_bytes w + b) ≡ byte_at w d b
first-row w d b = let e : 0 * row_bytes w + b ≡ b = omega arith in ap (byte_at w d) e

module _ (w : ℕ) (d : ℕ → ℕ) (q : ℕ) where
  -- the dots of byte b of row q that are samples'
  dot-in : (b i : ℕ) → 8 * b + i < w → padded_bit w d q (8 * b + i) ≡ d (q * w + 8 * b + i)
  dot-in b i h =
      let e : q * w + (8 * b + i) ≡ q * w + 8 * b + i = omega arith in
      bit_in w d q (8 * b + i) h ∙ ap d e

  pub byte-whole : (b : ℕ) → 8 * b + 8 ≤ w → byte_at w d (q * row_bytes w + b) ≡ digits (λ i. d (q * w + 8 * b + i)) 8
  byte-whole b h =
      byte-at w d q b (omega arith)
      ∙ appended-ext 0 (λ i. padded_bit w d q (8 * b + i)) (λ i. d (q * w + 8 * b + i)) 8 (λ i l. dot-in b i (omega arith))

  -- the last byte of a row that ends inside it
  pub byte-ending : 0 < w % 8 → byte_at w d (q * row_bytes w + w / 8) ≡ digits (λ i. d (q * w + 8 * (w / 8) + i)) (w % 8) * 2 ^ (8 - w % 8)
  byte-ending h =
      let f : ℕ → ℕ = λ i. padded_bit w d q (8 * (w / 8) + i) in
      let e : w % 8 + (8 - w % 8) ≡ 8 = omega arith in
      byte-at w d q (w / 8) (omega arith)
      ∙ ap (digits f) (sym e)
      ∙ digits-tail f (w % 8) (8 - w % 8) (λ i l. bit_past w d q (8 * (w / 8) + i) (omega arith))
      ∙ ap (λ (n : ℕ). n * 2 ^ (8 - w % 8))
      (appended-ext 0 f (λ i. d (q * w + 8 * (w / 8) + i)) (w % 8) (λ i l. dot-in (w / 8) i (omega arith)))

-- ---- a row's last byte cut from eight dots

pub masked : (w : ℕ) (f : ℕ → ℕ) → ((i : ℕ) → f i ≤ 1) → 0 < w % 8
    → bit_and (digits f 8) (padding_mask w) ≡ digits f (w % 8) * 2 ^ (8 - w % 8)
masked w f low h =
    let p : padding_bits w ≡ 8 - w % 8 = omega arith in
    let e : w % 8 + (8 - w % 8) ≡ 8 = omega arith in
    mask_low (padding_bits w) (digits f 8) (omega arith) (appended-lt 0 f low 0 8 (omega arith))
    ∙ ap (λ (k : ℕ). digits f 8 / 2 ^ k * 2 ^ k) p
    ∙ ap (λ (n : ℕ). digits f n / 2 ^ (8 - w % 8) * 2 ^ (8 - w % 8)) (sym e)
    ∙ ap (λ (n : ℕ). n * 2 ^ (8 - w % 8)) (digits-high f low (w % 8) (8 - w % 8))

-- ---- the byte of a second row behind one of three dots or four, cut from the same eight

module _ (f : ℕ → ℕ) (low : (i : ℕ) → f i ≤ 1) where
  second-three : digits f 8 * 2 ^ 3 % 256 / 2 ^ 5 * 2 ^ 5 ≡ digits (λ i. f (3 + i)) 3 * 2 ^ 5
  unfolding appended
  second-three = omega (arith, low 0, low 1, low 2, low 3, low 4, low 5, low 6, low 7)

  second-four : digits f 8 * 2 ^ 4 % 256 / 2 ^ 4 * 2 ^ 4 ≡ digits (λ i. f (4 + i)) 4 * 2 ^ 4
  unfolding appended
  second-four = omega (arith, low 0, low 1, low 2, low 3, low 4, low 5, low 6, low 7)

  pub masked-second : (w : ℕ) → 2 < w → w < 5 → bit_and (digits f 8 * 2 ^ w % 256) (padding_mask w) ≡ digits (λ i. f (w + i)) w * 2 ^ (8 - w)
  masked-second w wide narrow =
      ⊎_elim
      (λ l. let e : w ≡ 3 = omega arith in rw e (mask_low 5 (digits f 8 * 2 ^ 3 % 256) (omega arith) (omega arith) ∙ second-three))
      (λ l. let e : w ≡ 4 = omega arith in rw e (mask_low 4 (digits f 8 * 2 ^ 4 % 256) (omega arith) (omega arith) ∙ second-four))
      (lt-or-le w 4)
