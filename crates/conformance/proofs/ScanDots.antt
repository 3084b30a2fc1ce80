-- The bytes that samples finish: their dots and their padding.
use Prim.Native.Nat.{ℕ, zero, suc, ◌+◌, ◌-◌, ◌*◌, ◌/◌, ◌%◌, ◌^◌, ◌≤◌, ◌<◌}
use mathlib.Core.Path.{◌≡◌, refl, sym, ap, ◌∙◌, subst}
use mathlib.Core.Bool.{Bool, true, false, ◌&&◌}
use mathlib.Core.List.{List}
use native.Mathlib.Nat.{pow-suc, mul_comm, div-div-eq-div-mul, div-eq_of_lt, mod-eq_of_lt}
use native.Mathlib.Omega.{arith}
use borrow.Author.Tests.{ltb-true, ltb-false}
use lib.Dec.{ltb, eqb}
use lib.ListN.{length, get_or, get_or-eq_default}
use lib.Pow.{shl-shr}
use Rattle.error.specs.Choice.{if}
use Rattle.laws.proofs.Octets.{Octets}
use Rattle.laws.proofs.Products.{up_to}
use Rattle.image.specs.Dots.{bit_at, is_white}
use Rattle.image.specs.Geometry.{row_bytes, padding_bits}
use Rattle.image.specs.Rows.{clear_low}
use Rattle.image.specs.declared.PixelFormat.TheVariants.{MonoBlack}
use Rattle.rules.specs.Bits.{bit, appended, digits}
use Rattle.rules.specs.Rule.{Rule, dot}
use Rattle.quantize.specs.Finished.{Setting, count, frame, dot_of, finished, setting}
use Rattle.rules.specs.Packed.{padded_bit, byte_at}
use Rattle.rules.proofs.DigitsAppended.{bit_le, appended-lt, appended-add, digits-tail}
use Rattle.rules.proofs.UptoList.{length-upto, upto-at}
use Rattle.rules.proofs.PlaneBytes.{div-at, mod-at, bit_in, bit_past, byte-at}
use Rattle.conformance.specs.ReadBack.{scan_white}

-- the digits after the first are below them
above : (begun : ℕ) (f : ℕ → ℕ) → ((i : ℕ) → f i ≤ 1) → (m : ℕ) → appended begun f m / 2 ^ m ≡ begun
unfolding appended
above begun f b zero = omega arith
above begun f b (suc m) =
    let p : (appended begun f m * 2 + f m) / 2 ≡ appended begun f m = omega (arith, b m) in
    let q : 2 ^ suc m ≡ 2 * 2 ^ m = pow-suc 2 m ∙ mul_comm (2 ^ m) 2 in
    ap (λ (n : ℕ). (appended begun f m * 2 + f m) / n) q
    ∙ sym (div-div-eq-div-mul (appended begun f m * 2 + f m) 2 (2 ^ m))
    ∙ ap (λ (n : ℕ). n / 2 ^ m) p
    ∙ above begun f b m

-- digit i of eight
digit_at : (f : ℕ → ℕ) → ((i : ℕ) → f i ≤ 1) → (i : ℕ) → i < 8 → digits f 8 / 2 ^ (7 - i) % 2 ≡ f i
unfolding appended
digit_at f b i l =
    let e : suc i + (7 - i) ≡ 8 = omega arith in
    ap (λ (n : ℕ). n / 2 ^ (7 - i) % 2) (sym (appended-add f (suc i) (7 - i) ∙ ap (digits f) e))
    ∙ ap (λ (n : ℕ). n % 2) (above (digits f (suc i)) (λ k. f (suc i + k)) (λ k. b (suc i + k)) (7 - i))
    ∙ omega (arith, b i)

module _ (s : Setting) (xs : List ℕ) where
  abbrev w : ℕ
  w = s.width

  abbrev d : ℕ → ℕ
  d = dot_of s xs

  dot-small : (n : ℕ) → d n ≤ 1
  unfolding dot_of
  dot-small n = bit_le (dot s.rule w (frame w s.height xs (n / w / s.height)) (n % w) (n / w % s.height))

  bit-small : (r c : ℕ) → padded_bit w d r c ≤ 1
  unfolding padded_bit
  bit-small r c = go (ltb c w)
    where
      go : (t : Bool) → if t (d (r * w + c)) 0 ≤ 1
      go true = dot-small (r * w + c)
      go false = omega arith

  -- byte j of row r, all rows counted
  finished-byte : (r j : ℕ) → j < row_bytes w → r * row_bytes w + j < length (finished s xs)
      → get_or (finished s xs) (r * row_bytes w + j) 0 ≡ digits (λ i. padded_bit w d r (8 * j + i)) 8
  unfolding finished
  finished-byte r j h l = upto-at (byte_at w d) 0 _ (r * row_bytes w + j) (rw length-upto at l) ∙ byte-at w d r j h

  pub finished-octets : Octets (finished s xs)
  unfolding finished byte_at
  finished-octets i = go (ltb i n) refl
    where
      n : ℕ
      n = count s (length xs)

      go : (t : Bool) → ltb i n ≡ t → get_or (finished s xs) i 0 < 256
      go true e =
          let b =
          appended-lt 0 (λ k. padded_bit w d (i / row_bytes w) (8 * (i % row_bytes w) + k))
          (λ k. bit-small (i / row_bytes w) (8 * (i % row_bytes w) + k)) 0 8 (omega arith) in
          subst (λ (b : ℕ). b < 256) (sym (upto-at (byte_at w d) 0 n i (ltb-true i n e))) b
      go false e =
          subst (λ (b : ℕ). b < 256) (sym
          (get_or-eq_default (finished s xs) 0 (omega (arith, length-upto (byte_at w d) n, ltb-false i n e)))) (omega arith)

  -- the padding of a row is 0
  pub finished-last : (r : ℕ) → 0 < w → r * row_bytes w + (row_bytes w - 1) < length (finished s xs)
      → get_or (finished s xs) (r * row_bytes w + (row_bytes w - 1)) 0
      ≡ clear_low (padding_bits w) (get_or (finished s xs) (r * row_bytes w + (row_bytes w - 1)) 0)
  finished-last r wide l =
      let j = row_bytes w - 1 in
      let p = padding_bits w in
      let f : ℕ → ℕ = λ i. padded_bit w d r (8 * j + i) in
      let e : 8 - p + p ≡ 8 = omega arith in
      let tail : digits f 8 ≡ digits f (8 - p) * 2 ^ p =
      sym (ap (digits f) e) ∙ digits-tail f (8 - p) p (λ i h. bit_past w d r (8 * j + i) (omega arith)) in
      let b : get_or (finished s xs) (r * row_bytes w + j) 0 ≡ digits f (8 - p) * 2 ^ p = finished-byte r j (omega arith) l ∙ tail in
      b ∙ sym (ap (λ (n : ℕ). n * 2 ^ p) (shl-shr (digits f (8 - p)) p)) ∙ ap (clear_low p) (sym b)

  -- bit x of row r is the dot of its sample
  finished-bit : (x r : ℕ) → x < w → r * row_bytes w + x / 8 < length (finished s xs)
      → get_or (finished s xs) (r * row_bytes w + x / 8) 0 / 2 ^ (7 - x % 8) % 2 ≡ d (r * w + x)
  finished-bit x r h l =
      let c : 8 * (x / 8) + x % 8 ≡ x = omega arith in
      ap (λ (b : ℕ). b / 2 ^ (7 - x % 8) % 2) (finished-byte r (x / 8) (omega arith) l)
      ∙ digit_at (λ i. padded_bit w d r (8 * (x / 8) + i)) (λ i. bit-small r (8 * (x / 8) + i)) (x % 8) (omega arith)
      ∙ ap (padded_bit w d r) c
      ∙ bit_in w d r x h

-- The plane that a scan finishes: its dots are the rule's.
module _ (rule : Rule) (width height : ℕ) (scan : List ℕ)
    (there : length (finished (setting rule width height 1) scan) ≡ height * row_bytes width)
    (x y : ℕ) where
  scan-bit : x < width → y < height
      → bit_at (row_bytes width) (finished (setting rule width height 1) scan) x y
      ≡ bit (dot rule width (frame width height scan 0) x y)
  unfolding bit_at dot_of
  scan-bit p q =
      let m = up_to (row_bytes width) y height q in
      finished-bit (setting rule width height 1) scan x y p (omega (arith, there))
      ∙ rw (div-at width y x p, mod-at width y x p, div-eq_of_lt q, mod-eq_of_lt q)

  pub scan-dots : is_white MonoBlack width height (row_bytes width) (finished (setting rule width height 1) scan) x y
      ≡ scan_white rule width height scan x y
  unfolding is_white
  scan-dots = go (ltb x width) (ltb y height) refl refl
    where
      white : Bool
      white = dot rule width (frame width height scan 0) x y

      shown : (b : Bool) → eqb (bit b) 1 ≡ b
      shown true = refl
      shown false = refl

      go : (t u : Bool) → ltb x width ≡ t → ltb y height ≡ u
          → (t && u && eqb (bit_at (row_bytes width) (finished (setting rule width height 1) scan) x y) 1) ≡ (t && u && white)
      go true true p q = ap (λ (n : ℕ). eqb n 1) (scan-bit (ltb-true x width p) (ltb-true y height q)) ∙ shown white
      go true false p q = refl
      go false u p q = refl
