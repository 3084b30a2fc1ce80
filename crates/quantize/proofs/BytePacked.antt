-- Bytes as their dots come: the begun byte after one dot more, and a byte that is finished.
-- Assumes nothing.
use Prim.Native.Nat.{ℕ, ◌+◌, ◌-◌, ◌*◌, ◌/◌, ◌%◌, ◌^◌, ◌≤◌, ◌<◌}
use mathlib.Core.Path.{◌≡◌, sym, ap, ◌∙◌}
use mathlib.Core.Logic.{◌⊎◌, ⊎_elim}
use native.Mathlib.Nat.{mod-lt, div-add-mod', mul-one}
use native.Mathlib.Numerals.{add-one}
use native.Mathlib.Omega.{arith}
use Rattle.rules.specs.Bits.{appended, digits}
use Rattle.quantize.specs.Finished.{Setting, Bytewise, count}
use Rattle.rules.specs.Packed.{padded_bit, byte_at}
use Rattle.quantize.specs.Internal.Place.{begun_by, Begun}
use Rattle.rules.proofs.DigitsAppended.{appended-ext, digits-tail}
use Rattle.rules.proofs.PlaneBytes.{bit_in, bit_past, byte-at}
use Rattle.quantize.proofs.Places.{col-row, on_row, on-column, count-now}

-- no dot
pub begun-none : (w : ℕ) (d : ℕ → ℕ) (n : ℕ) → n % w % 8 ≡ 0 → Begun w d n 0
unfolding begun_by appended
begun-none w d n h = rw h

-- the dots of row n / w before sample n make the begun byte
pub begun-ext : (w : ℕ) (d e : ℕ → ℕ) (n begun : ℕ) → 0 < w → ((c : ℕ) → c < n % w → d (n / w * w + c) ≡ e (n / w * w + c))
    → Begun w d n begun → Begun w e n begun
unfolding begun_by
begun-ext w d e n begun p h b =
    let c = n % w in
    let l = mod-lt n p in
    b ∙ appended-ext 0 (λ i. padded_bit w d (n / w) (8 * (c / 8) + i)) (λ i. padded_bit w e (n / w) (8 * (c / 8) + i)) (c % 8)
    (λ i k. bit_in w d (n / w) (8 * (c / 8) + i) (omega arith) ∙ h (8 * (c / 8) + i) (omega arith)
    ∙ sym (bit_in w e (n / w) (8 * (c / 8) + i) (omega arith)))

-- the byte that sample n goes into
module _ (s : Setting) (n : ℕ) (wide : 0 < s.width) (d : ℕ → ℕ) where
  abbrev w : ℕ
  w = s.width

  abbrev column : ℕ
  column = n % s.width

  -- its dots
  abbrev f : ℕ → ℕ
  f i = padded_bit w d (n / w) (8 * (column / 8) + i)

  in-row : column < w
  in-row = mod-lt n wide

  -- the dot of sample n after those begun
  pub begun_more : (begun b : ℕ) → Begun s.width d n begun → b ≡ d n → begun * 2 + b ≡ begun_by s.width d n (n % s.width % 8 + 1)
  unfolding begun_by appended
  begun_more begun b e k =
      let l = in-row in
      let u : 8 * (column / 8) + column % 8 ≡ column = omega arith in
      let here : f (column % 8) ≡ d n = rw u (bit_in w d (n / w) column in-row ∙ ap d (div-add-mod' n w)) in
      rw (e, k, ← here, add-one (column % 8))

  module _ (g : ℕ) (e : g ≡ begun_by s.width d n (n % s.width % 8 + 1)) where
    digits_are : g ≡ digits f (column % 8 + 1)
    unfolding begun_by
    digits_are = e

    -- the row is finished byte after byte
    module _ (b : Bytewise s.rule (n / s.width % s.height)) where
      byte-is : byte_at w d (count s n) ≡ digits f 8
      byte-is = rw (count-now s n wide b, byte-at w d (n / w) (column / 8) (col-row w column in-row))

      -- eight dots, or the row's last ones and zeros
      pub byte_last : (s.width ≤ n % s.width + 1) ⊎ (7 ≤ n % s.width % 8)
          → g * 2 ^ (7 - n % s.width % 8) ≡ byte_at s.width d (count s n)
      byte_last k =
          ap (λ (x : ℕ). x * 2 ^ (7 - column % 8)) digits_are
          ∙ ⊎_elim
          (λ (h : w ≤ column + 1).
          let t : column % 8 + 1 + (7 - column % 8) ≡ 8 = omega arith in
          sym (digits-tail f (column % 8 + 1) (7 - column % 8) (λ i l. bit_past w d (n / w) (8 * (column / 8) + i) (omega arith)))
          ∙ ap (digits f) t)
          (λ (h : 7 ≤ column % 8).
          let t : column % 8 ≡ 7 = omega arith in
          rw t (mul-one (digits f 8)))
          k
          ∙ sym byte-is

    -- the byte goes on
    pub begun-on : n % s.width + 1 < s.width → n % s.width % 8 < 7 → Begun s.width d (n + 1) g
    unfolding begun_by
    begun-on h k =
        let u : (column + 1) / 8 ≡ column / 8 = omega arith in
        let v : (column + 1) % 8 ≡ column % 8 + 1 = omega arith in
        digits_are ∙ rw (on_row s n wide h, on-column s n wide h, u, v)
