-- What a finished byte depends on: the samples that are counted for it. So the bytes that samples have finished stay, whatever comes after
-- them.
-- Assumes nothing.
use Prim.Native.Nat.{ℕ, ◌+◌, ◌*◌, ◌/◌, ◌%◌, ◌≤◌, ◌<◌}
use mathlib.Core.Path.{◌≡◌, refl, sym, ap, ◌∙◌, subst}
use mathlib.Core.Logic.{◌⊎◌, inl, inr, ⊎_elim}
use mathlib.Core.List.{List, ◌++◌}
use native.Mathlib.Nat.{mod-lt, div-add-mod', add-mul, one-mul, mul-le-mul_right}
use native.Mathlib.Omega.{arith}
use lib.Dec.{leb}
use lib.ListN.{length, get_or-append}
use Rattle.image.specs.Geometry.{row_bytes}
use Rattle.rules.specs.Bits.{bit}
use Rattle.rules.specs.Diffusion.{Direction, to_right, visited, white, residual, residual_at, value_at}
use Rattle.rules.specs.Ordered.{bound, cell}
use Rattle.rules.specs.Rule.{Rule, threshold, dither, ordered, rightwards, dot}
use Rattle.quantize.specs.Finished.{Setting, begun_bytes, Bytewise, count, frame, dot_of}
use Rattle.rules.specs.Packed.{padded_bit, byte_at}
use Rattle.laws.proofs.Tests.{lt-or-le}
use Rattle.rules.proofs.DigitsAppended.{appended-ext}
use Rattle.rules.proofs.DotCauses.{value_at-ext, residual-is}
use Rattle.rules.proofs.PlaneBytes.{div-at, mod-at, bit_in, bit_past}
use Rattle.quantize.proofs.Places.{bytewise, begun-within}

-- ---- where sample n is

module _ (w h n : ℕ) where
  pub place_of : n ≡ (n / w / h * h + n / w % h) * w + n % w
  place_of = sym (ap (λ (r : ℕ). r * w + n % w) (div-add-mod' (n / w) h) ∙ div-add-mod' n w)

-- a place in an earlier row is earlier
row_lt : (w a b x j : ℕ) → a < b → j < w → a * w + j < b * w + x
row_lt w a b x j h l =
    let m : (a + 1) * w ≤ b * w = mul-le-mul_right w (omega arith) in
    let e : (a + 1) * w ≡ a * w + w = rw (add-mul, one-mul) in
    omega arith

-- ---- more samples leave the earlier ones as they are

module _ (w h : ℕ) (xs ys : List ℕ) where
  frame_same : (f x y : ℕ) → (f * h + y) * w + x < length xs → frame w h xs f x y ≡ frame w h (xs ++ ys) f x y
  unfolding frame
  frame_same f x y l = sym (get_or-append xs ys 0 ((f * h + y) * w + x) l)

  module _ (f x y : ℕ) (l : (f * h + y) * w + x ≤ length xs) where
    pub earlier : (j k : ℕ) → k < y → j < w → frame w h xs f j k ≡ frame w h (xs ++ ys) f j k
    earlier j k m o = frame_same f j k (let r = row_lt w (f * h + k) (f * h + y) x j (omega arith) o in omega arith)

    row_same : (j : ℕ) → j < x → frame w h xs f j y ≡ frame w h (xs ++ ys) f j y
    row_same j m = frame_same f j y (omega arith)

    -- where the row runs to the right
    module _ (dirs : ℕ → Direction) (runs : dirs y ≡ to_right) where
      value_same : (j : ℕ) → j < x → x ≤ w → value_at dirs w (frame w h xs f) j y ≡ value_at dirs w (frame w h (xs ++ ys) f) j y
      value_same j m o =
          value_at-ext dirs w (frame w h xs f) (frame w h (xs ++ ys) f) j y (omega arith) earlier
          (subst (λ (d : Direction). (i : ℕ) → i ≤ visited d w j
          → frame w h xs f (visited d w i) y ≡ frame w h (xs ++ ys) f (visited d w i) y) (sym runs)
          (λ i n. row_same i (omega arith)))

      pub residual-same : (j : ℕ) → j < x → x ≤ w → residual_at dirs w (frame w h xs f) j y ≡ residual_at dirs w (frame w h (xs ++ ys) f) j y
      residual-same j m o =
          residual-is dirs w (frame w h xs f) j y
          ∙ ap residual (value_same j m o)
          ∙ sym (residual-is dirs w (frame w h (xs ++ ys) f) j y)

-- ---- the rule's say

-- where the row is finished byte after byte, a dot depends on the samples up to its own
dot-same : (rule : Rule) (w h : ℕ) (xs ys : List ℕ) (f x y : ℕ) → Bytewise rule y → x < w → (f * h + y) * w + x < length xs
    → dot rule w (frame w h xs f) x y ≡ dot rule w (frame w h (xs ++ ys) f) x y
unfolding dot
dot-same (threshold t) w h xs ys f x y b i l = ap (leb t) (frame_same w h xs ys f x y l)
dot-same dither w h xs ys f x y b i l =
    ap white (value_same w h xs ys f (x + 1) y (omega arith) rightwards refl x (omega arith) (omega arith))
dot-same (ordered side table) w h xs ys f x y b i l = ap (leb (bound side (cell side table x y))) (frame_same w h xs ys f x y l)

-- a dot of a full row, or of a counted byte of a begun one, depends on the samples of its row that have come and on those before
dot-counted : (rule : Rule) (w h : ℕ) (xs ys : List ℕ) (f x y c : ℕ) → x < w → c ≤ w → (f * h + y) * w + c ≤ length xs
    → (w ≤ c) ⊎ (x < 8 * begun_bytes rule y c)
    → dot rule w (frame w h xs f) x y ≡ dot rule w (frame w h (xs ++ ys) f) x y
unfolding begun_bytes
dot-counted (threshold t) w h xs ys f x y c i m l k =
    dot-same (threshold t) w h xs ys f x y (bytewise (threshold t) y) i (⊎_elim (λ e. omega arith) (λ e. omega arith) k)
dot-counted dither w h xs ys f x y c i m l k =
    dot-same dither w h xs ys f x y (bytewise dither y) i (⊎_elim (λ e. omega arith) (λ e. omega arith) k)
dot-counted (ordered side table) w h xs ys f x y c i m l k =
    dot-same (ordered side table) w h xs ys f x y (bytewise (ordered side table) y) i (⊎_elim (λ e. omega arith) (λ e. omega arith) k)

-- ---- counted bytes

module _ (s : Setting) (wide : 0 < s.width) (xs ys : List ℕ) where
  abbrev w : ℕ
  w = s.width

  abbrev n : ℕ
  n = length xs

  -- column c of row q, all rows counted, of whose samples the first m have come
  dot_of-counted : (q c m : ℕ) → c < w → m ≤ w → q * w + m ≤ n → (w ≤ m) ⊎ (c < 8 * begun_bytes s.rule (q % s.height) m)
      → dot_of s (xs ++ ys) (q * w + c) ≡ dot_of s xs (q * w + c)
  unfolding dot_of
  dot_of-counted q c m h i l k =
      let e : (q / s.height * s.height + q % s.height) * w + m ≡ q * w + m = ap (λ (r : ℕ). r * w + m) (div-add-mod' q s.height) in
      rw (div-at w q c h, mod-at w q c h) (ap bit (sym (dot-counted s.rule w s.height xs ys (q / s.height) c (q % s.height) m h i
      (omega arith) k)))

  -- a dot of a row that is finished byte after byte
  pub dot_of-begun : (q c : ℕ) → c < w → Bytewise s.rule (q % s.height) → q * w + c < n
      → dot_of s (xs ++ ys) (q * w + c) ≡ dot_of s xs (q * w + c)
  unfolding dot_of
  dot_of-begun q c h b l =
      let e : (q / s.height * s.height + q % s.height) * w + c ≡ q * w + c = ap (λ (r : ℕ). r * w + c) (div-add-mod' q s.height) in
      rw (div-at w q c h, mod-at w q c h) (ap bit (sym (dot-same s.rule w s.height xs ys (q / s.height) c (q % s.height) b h
      (omega arith))))

  -- the dots of byte b of row q
  dot-stays : (q b i : ℕ) → q * row_bytes w + b < n / w * row_bytes w + begun_bytes s.rule (n / w % s.height) (n % w) → b < row_bytes w
      → i < 8 → 8 * b + i < w
      → dot_of s (xs ++ ys) (q * w + (8 * b + i)) ≡ dot_of s xs (q * w + (8 * b + i))
  dot-stays q b i l m o k =
      let c = mod-lt n wide in
      let t = div-add-mod' n w in
      ⊎_elim
      (λ (p : q < n / w).
      let u : (q + 1) * w ≤ n / w * w = mul-le-mul_right w (omega arith) in
      let v : (q + 1) * w ≡ q * w + w = rw (add-mul, one-mul) in
      dot_of-counted q (8 * b + i) w k (omega arith) (omega arith) (inl (omega arith)))
      (λ (p : n / w ≤ q).
      ⊎_elim
      (λ (z : n / w < q).
      let u : (n / w + 1) * row_bytes w ≤ q * row_bytes w = mul-le-mul_right (row_bytes w) (omega arith) in
      let v : (n / w + 1) * row_bytes w ≡ n / w * row_bytes w + row_bytes w = rw (add-mul, one-mul) in
      let o = begun-within s.rule w (n / w % s.height) (n % w) c in
      let f : ⊥ = omega arith in
      absurd f)
      (λ (z : q ≤ n / w).
      let e : n / w ≡ q = omega arith in
      let g : q * row_bytes w ≡ n / w * row_bytes w = ap (λ (r : ℕ). r * row_bytes w) (sym e) in
      let u : q * w ≡ n / w * w = ap (λ (r : ℕ). r * w) (sym e) in
      let x : b < begun_bytes s.rule (q % s.height) (n % w) =
      subst (λ (r : ℕ). b < begun_bytes s.rule (r % s.height) (n % w)) e (omega arith) in
      dot_of-counted q (8 * b + i) (n % w) k (omega arith) (omega arith) (inr (omega arith)))
      (lt-or-le (n / w) q))
      (lt-or-le q (n / w))

  -- A COUNTED BYTE DEPENDS ONLY ON THE SAMPLES COUNTED FOR IT
  pub byte-counted : (j : ℕ) → j < count s n → byte_at w (dot_of s (xs ++ ys)) j ≡ byte_at w (dot_of s xs) j
  unfolding byte_at count
  byte-counted j l =
      let p : 0 < row_bytes w = omega arith in
      let x = div-add-mod' j (row_bytes w) in
      appended-ext 0 _ _ 8 (λ i o. here (j / row_bytes w) (j % row_bytes w) i (omega arith) (mod-lt j p) o)
    where
      here : (q b i : ℕ) → q * row_bytes w + b < n / w * row_bytes w + begun_bytes s.rule (n / w % s.height) (n % w) → b < row_bytes w
          → i < 8
          → padded_bit w (dot_of s (xs ++ ys)) q (8 * b + i) ≡ padded_bit w (dot_of s xs) q (8 * b + i)
      here q b i l m o =
          ⊎_elim
          (λ (k : 8 * b + i < w). bit_in w (dot_of s (xs ++ ys)) q (8 * b + i) k ∙ dot-stays q b i l m o k
          ∙ sym (bit_in w (dot_of s xs) q (8 * b + i) k))
          (λ (k : w ≤ 8 * b + i). bit_past w (dot_of s (xs ++ ys)) q (8 * b + i) k ∙ sym (bit_past w (dot_of s xs) q (8 * b + i) k))
          (lt-or-le (8 * b + i) w)
