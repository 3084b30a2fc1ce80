-- Planes of the threshold rule as their rows are written.
-- Assumes nothing.
use Prim.Native.Nat.{ℕ, ◌+◌, ◌-◌, ◌*◌, ◌/◌, ◌%◌, ◌^◌, ◌≤◌, ◌<◌}
use mathlib.Core.Path.{◌≡◌, sym, ap, ap₂, ◌∙◌}
use mathlib.Core.Bool.{◌&&◌}
use mathlib.Core.List.{List, ◌++◌}
use native.Mathlib.Nat.{mul_comm, mul_assoc, add_assoc, add-mul, mul-le-mul_right, zero-add}
use native.Mathlib.Nat.{mod-lt, mod-eq_of_lt, lt_of_lt_of_le, div-add-mod'}
use native.Mathlib.Omega.{arith}
use lib.Bits.{bit_and}
use lib.Dec.{leb}
use lib.ListN.{length, get_or, take, drop, set, length-drop}
use lib.Seq.{get_or-take, get_or-drop}
use borrow.Author.Tests.{le-leb}
use borrow.Rule.Slice.PartMut.{put_mid}
use Rattle.laws.proofs.Products.{up_to, some_size}
use Rattle.laws.proofs.Tests.{if-true}
use Rattle.image.specs.Geometry.{row_bytes, plane_bytes}
use Rattle.image.specs.declared.PlaneLayout.{PlaneLayout}
use Rattle.rules.specs.Bits.{bit, digits, appended, upto}
use Rattle.rules.specs.Packed.{byte_at}
use Rattle.rules.specs.Internal.Kernels.{threshold_bit, threshold_from, threshold_bytes}
use Rattle.rules.specs.Internal.Planes.{PlaneFits, plane, plane_onto, plane_where, ending_byte}
use Rattle.rules.proofs.DigitsAppended.{bit_le, appended-lt, appended-ext, shifted-lt}
use Rattle.rules.proofs.PlaneBytes.{byte-same, first-row, byte-whole, byte-ending, masked, masked-second}
use Rattle.rules.proofs.UptoList.{upto-ext}
use Rattle.rules.proofs.UptoOverlaid.{overlaid, overlaid-none, overlaid-length, overlaid-next, overlaid-all, overlaid-put}

-- ---- whether there is a plane

module _ (w h : ℕ) (d : ℕ → ℕ) (samples : ℕ) (out : List ℕ) where
  pub plane-in : (w * h ≤ samples) × (h * row_bytes w ≤ length out) → plane_where w h d samples out ≡ plane_onto w h d out
  plane-in f = if-true _ _ _ (ap₂ ◌&&◌ (le-leb (w * h) samples f.0) (le-leb (h * row_bytes w) (length out) f.1))

module _ (t : ℕ) (gray : List ℕ) where
  abbrev dots : ℕ → ℕ
  dots = threshold_bit t gray

  -- ---- rows of one sample and of two, of which byte i is made

  pub ones-byte : (i r : ℕ) → r ≡ dots i * 128 → r ≡ byte_at 1 dots i
  unfolding appended
  ones-byte i r e =
      let a : i * 1 + 0 ≡ i = omega arith in
      let b : i + 0 ≡ i = omega arith in
      let p : byte_at 1 dots (i * 1 + 0) ≡ (0 + dots (i * 1 + 0 + 0)) * 128 = byte-ending 1 dots i (omega arith) in
      let q : byte_at 1 dots i ≡ (0 + dots i) * 128 = rw (a, b) at p in
      omega arith

  pub pairs-byte : (i r s : ℕ) → r ≡ dots (2 * i) * 128 → s ≡ dots (2 * i + 1) * 64 → r + s ≡ byte_at 2 dots i
  unfolding appended
  pairs-byte i r s e f =
      let a : i * 1 + 0 ≡ i = omega arith in
      let b : i * 2 + 0 + 0 ≡ 2 * i = omega arith in
      let c : i * 2 + 0 + 1 ≡ 2 * i + 1 = omega arith in
      let p : byte_at 2 dots (i * 1 + 0) ≡ ((0 + dots (i * 2 + 0 + 0)) * 2 + dots (i * 2 + 0 + 1)) * 64 =
      byte-ending 2 dots i (omega arith) in
      let q : byte_at 2 dots i ≡ ((0 + dots (2 * i)) * 2 + dots (2 * i + 1)) * 64 = rw (a, b, c) at p in
      omega arith

  pub bytes-plane : (w n : ℕ) (out out' : List ℕ) → row_bytes w ≡ 1 → n ≡ length out → out' ≡ overlaid n (byte_at w dots) out
      → out' ≡ plane w (length out) dots
  bytes-plane w n out out' one e o =
      let m : n * 1 ≡ n = omega arith in
      o
      ∙ overlaid-all (byte_at w dots) out n e
      ∙ ap (λ (k : ℕ). upto k (byte_at w dots)) (sym m ∙ ap₂ ◌*◌ e (sym one))

  -- ---- a row's last dots, made one by one

  ending-lt : length gray ≤ 8 → ending_byte t gray < 256
  ending-lt l =
      let m = length gray in
      shifted-lt (digits dots m) m l (rw zero-add at (appended-lt 0 dots (λ i. bit_le (leb t (get_or gray i 0))) 0 m (omega arith)))

  pub ending-is : (r : ℕ) → length gray ≤ 8 → r ≡ appended 0 dots (length gray)
      → r * 2 ^ (8 - length gray) % 4294967296 ≡ ending_byte t gray
  ending-is r l e =
      ap (λ (n : ℕ). n * 2 ^ (8 - length gray) % 4294967296) e ∙ mod-eq_of_lt (lt_of_lt_of_le (ending-lt l) (omega arith))

  pub ending-fits : (n : ℕ) → length gray ≤ 8 → n ≡ ending_byte t gray → n < 256
  ending-fits n l e = rw e (ending-lt l)

  -- the dots of samples from an index on
  pub dots-from : (at n c : ℕ) → c < n → threshold_bit t (take n (drop at gray)) c ≡ threshold_bit t gray (at + c)
  dots-from at n c l = ap (λ (g : ℕ). bit (leb t g)) (get_or-take n (drop at gray) c 0 l ∙ get_or-drop at gray c 0)

  -- ---- one row

  abbrev whole : ℕ → ℕ
  whole b = digits (threshold_from t gray (8 * b)) 8

  module _ (w : ℕ) where
    whole-is : (b : ℕ) → 8 * b + 8 ≤ w → whole b ≡ byte_at w dots b
    whole-is b h =
        let e : 8 * b ≡ 0 * w + 8 * b = omega arith in
        ap (λ (n : ℕ). digits (threshold_from t gray n) 8) e ∙ sym (byte-whole w dots 0 b h) ∙ first-row w dots b

    ending : 0 < w % 8 → byte_at w dots (w / 8) ≡ digits (threshold_from t gray (8 * (w / 8))) (w % 8) * 2 ^ (8 - w % 8)
    ending odd =
        let e : 0 * w + 8 * (w / 8) ≡ 8 * (w / 8) = omega arith in
        sym (first-row w dots (w / 8))
        ∙ byte-ending w dots 0 odd
        ∙ ap (λ (n : ℕ). digits (threshold_from t gray n) (w % 8) * 2 ^ (8 - w % 8)) e

  -- its samples alone
  pub ended-row : (out : List ℕ) (v : ℕ) → let w = length gray in 0 < w % 8 → length out ≡ row_bytes w
      → v ≡ ending_byte t (drop (8 * (w / 8)) gray)
      → set (threshold_bytes t gray (w / 8) ++ drop (w / 8) out) (w / 8) v ≡ plane w 1 dots
  ended-row out v odd room e =
      let w = length gray in
      let c = w / 8 in
      let f = byte_at w dots in
      let n : length (drop (8 * c) gray) ≡ w % 8 = omega (arith, length-drop (8 * c) gray) in
      let q : c + 1 ≡ 1 * row_bytes w = omega arith in
      let last : v ≡ f c =
      e
      ∙ ap (λ (m : ℕ). digits (threshold_bit t (drop (8 * c) gray)) m * 2 ^ (8 - m)) n
      ∙ ap (λ (m : ℕ). m * 2 ^ (8 - w % 8))
      (appended-ext 0 (threshold_bit t (drop (8 * c) gray)) (threshold_from t gray (8 * c)) (w % 8)
      (λ i _. ap (λ (g : ℕ). bit (leb t g)) (get_or-drop (8 * c) gray i 0)))
      ∙ sym (ending w odd) in
      ap (λ (l : List ℕ). set (l ++ drop c out) c v) (upto-ext whole f c (λ j l. whole-is w j (omega arith)))
      ∙ overlaid-next f out c v (omega arith) last
      ∙ overlaid-all f out (c + 1) (omega arith)
      ∙ ap (λ (j : ℕ). upto j f) q

  -- ---- rows of whole bytes, all at once

  module _ (w h : ℕ) (even : w % 8 ≡ 0) where
    pub flat-there : 8 * plane_bytes w h ≡ w * h
    flat-there = let e : 8 * row_bytes w ≡ w = omega arith in sym (mul_assoc 8 (row_bytes w) h) ∙ ap (λ (n : ℕ). n * h) e

    flat-byte : (j : ℕ) → 0 < row_bytes w → whole j ≡ byte_at w dots j
    flat-byte j some =
        let q = j / row_bytes w in
        let b = j % row_bytes w in
        let l = mod-lt j some in
        let e : q * row_bytes w + b ≡ j = div-add-mod' j (row_bytes w) in
        let r : row_bytes w * 8 ≡ w = omega arith in
        let m : q * w ≡ q * row_bytes w * 8 = ap (λ (n : ℕ). q * n) (sym r) ∙ sym (mul_assoc q (row_bytes w) 8) in
        let s : q * w + 8 * b ≡ 8 * j = omega arith in
        let p : byte_at w dots (q * row_bytes w + b) ≡ digits (threshold_from t gray (q * w + 8 * b)) 8 =
        byte-whole w dots q b (omega arith) in
        sym (rw (e, s) at p)

    pub flat-is : (n : ℕ) → n ≡ plane_bytes w h → threshold_bytes t gray n ≡ plane w h dots
    flat-is n e =
        let k : n ≡ h * row_bytes w = e ∙ mul_comm (row_bytes w) h in
        upto-ext whole (byte_at w dots) n (λ j l. flat-byte j (some_size j h (row_bytes w) (omega arith)))
        ∙ ap (λ (m : ℕ). upto m (byte_at w dots)) k

-- ---- rows that end inside a byte, one after the other

-- y of h rows of w dots are written
pub record RowsTo (t w h : ℕ) (gray out₀ out : List ℕ) (at to y : ℕ) : Type 0 where
  pub within : y ≤ h
  pub at_is : at ≡ y * w
  pub to_is : to ≡ y * row_bytes w
  pub out_is : out ≡ overlaid (y * row_bytes w) (byte_at w (threshold_bit t gray)) out₀

pub rows_none : (t w h : ℕ) (gray out₀ : List ℕ) → RowsTo t w h gray out₀ out₀ 0 0 0
rows_none t w h gray out₀ =
    let e : 0 ≡ 0 * row_bytes w = omega arith in
    let f : ℕ → ℕ = byte_at w (threshold_bit t gray) in
    record {
      within = omega arith;
      at_is = omega arith;
      to_is = e;
      out_is = overlaid-none f out₀ ∙ ap (λ (n : ℕ). overlaid n f out₀) e;
    }

module _ (l : PlaneLayout) where
  abbrev w : ℕ
  w = l.width

  abbrev h : ℕ
  h = l.height

  bytes-are : (n : ℕ) → n ≡ l.total_bytes → n ≡ h * row_bytes w
  bytes-are n e = e ∙ l.total_is ∙ mul_comm (row_bytes w) h

  module _ {t : ℕ} {gray out₀ : List ℕ} (fits : PlaneFits l (length gray) (length out₀)) where
    module _ {out : List ℕ} {at to y : ℕ} (r : RowsTo t w h gray out₀ out at to y) where
      rows-length : length out ≡ length out₀
      rows-length =
          let m : y * row_bytes w ≤ h * row_bytes w = mul-le-mul_right (row_bytes w) r.within in
          ap length r.out_is
          ∙ overlaid-length (byte_at w (threshold_bit t gray)) out₀ (y * row_bytes w) (omega (arith, bytes-are (length out₀) fits.1))

      -- the next row's samples and bytes
      pub row-there : y < h → at + w ≤ length gray
      row-there k = omega (arith, up_to w y h k, mul_comm w h, fits.0, r.at_is)

      pub row_room : y < h → to + row_bytes w ≤ length out
      row_room k = omega (arith, up_to (row_bytes w) y h k, bytes-are (length out₀) fits.1, r.to_is, rows-length)

      -- the eight samples at the end of a row behind which two follow
      pub word-there : 2 < w → 2 < h - y → at + 8 * (w / 8) + 8 ≤ length gray
      word-there wide k =
          let u = up_to w (y + 2) h (omega arith) in
          let e = add-mul y 2 w in
          omega (arith, mul_comm w h, fits.0, r.at_is)

      -- all of them
      pub rows-all : h ≤ y → out ≡ plane w h (threshold_bit t gray)
      rows-all k =
          let e : y ≡ h = omega (arith, r.within) in
          r.out_is
          ∙ ap (λ (n : ℕ). overlaid (n * row_bytes w) (byte_at w (threshold_bit t gray)) out₀) e
          ∙ overlaid-all (byte_at w (threshold_bit t gray)) out₀ (h * row_bytes w) (sym (bytes-are (length out₀) fits.1))

      -- from its samples
      pub row_more : (d : ℕ → ℕ) (new : List ℕ) → ((c : ℕ) → c < w → d c ≡ threshold_bit t gray (at + c)) → y < h → new ≡ plane w 1 d
          → RowsTo t w h gray out₀ (put_mid to (to + l.stride - to) out new) (at + w) (to + l.stride) (y + 1)
      row_more d new same k e =
          let f : ℕ → ℕ = byte_at w (threshold_bit t gray) in
          let n = y * row_bytes w in
          let one : 1 * row_bytes w ≡ row_bytes w = omega arith in
          let s = l.stride_is in
          let next : n + row_bytes w ≡ (y + 1) * row_bytes w = omega (arith, add-mul y 1 (row_bytes w)) in
          let z : (c : ℕ) → 0 * w + c ≡ c = λ c. omega arith in
          let bytes : (b : ℕ) → b < row_bytes w → byte_at w d b ≡ f (n + b) =
          λ b j. sym (first-row w d b)
          ∙ byte-same w d (threshold_bit t gray) 0 y
          (λ c i. ap d (z c) ∙ same c i ∙ ap (λ (m : ℕ). threshold_bit t gray (m + c)) r.at_is) b j in
          record {
            within = omega arith;
            at_is = omega (arith, r.at_is, add-mul y 1 w);
            to_is = ap (λ (m : ℕ). to + m) s ∙ ap (λ (m : ℕ). m + row_bytes w) r.to_is ∙ next;
            out_is =
                ap (λ (m : ℕ). put_mid to (to + m - to) out new) s
                ∙ ap (λ (m : ℕ). put_mid m (m + row_bytes w - m) out new) r.to_is
                ∙ ap₂ (λ (o x : List ℕ). put_mid n (n + row_bytes w - n) o x) r.out_is
                (e ∙ ap (λ (m : ℕ). upto m (byte_at w d)) one)
                ∙ overlaid-put f out₀ n (row_bytes w) (byte_at w d) bytes
                ∙ ap (λ (m : ℕ). overlaid m f out₀) next;
          }

      -- from eight samples for each byte, the last one cut by the mask
      pub cut_more : (n : ℕ) (new : List ℕ) (v : ℕ) → let end = to + w / 8 in 0 < w % 8 → y < h → 8 * (w / 8) ≤ n
          → new ≡ threshold_bytes t (take n (drop at gray)) (w / 8)
          → v ≡ bit_and (digits (threshold_from t gray (at + 8 * (w / 8))) 8) l.last_byte_pad_mask
          → RowsTo t w h gray out₀ (set (put_mid to (end - to) out new) end v) (at + w) (end + 1) (y + 1)
      cut_more n new v odd k long e m =
          let d = threshold_bit t gray in
          let f = byte_at w d in
          let part = take n (drop at gray) in
          let front = y * row_bytes w in
          let c = w / 8 in
          let p = at + 8 * c in
          let whole : ℕ → ℕ = λ b. digits (threshold_from t part (8 * b)) 8 in
          let next : front + c + 1 ≡ (y + 1) * row_bytes w = omega (arith, add-mul y 1 (row_bytes w)) in
          let u = up_to (row_bytes w) y h k in
          let bytes : (b : ℕ) → b < c → whole b ≡ f (front + b) =
          λ b j.
          appended-ext 0 (threshold_from t part (8 * b)) (threshold_from t gray (at + 8 * b)) 8
          (λ i q. dots-from t gray at n (8 * b + i) (omega arith) ∙ ap d (sym (add_assoc at (8 * b) i)))
          ∙ ap (λ (i : ℕ). digits (threshold_from t gray (i + 8 * b)) 8) r.at_is
          ∙ sym (byte-whole w d y b (omega arith)) in
          let last : v ≡ f (front + c) =
          m
          ∙ ap (bit_and (digits (threshold_from t gray p) 8)) l.mask_is
          ∙ masked w (threshold_from t gray p) (λ i. bit_le (leb t (get_or gray (p + i) 0))) odd
          ∙ ap (λ (i : ℕ). digits (threshold_from t gray (i + 8 * c)) (w % 8) * 2 ^ (8 - w % 8)) r.at_is
          ∙ sym (byte-ending w d y odd) in
          record {
            within = omega arith;
            at_is = omega (arith, r.at_is, add-mul y 1 w);
            to_is = ap (λ (i : ℕ). i + c + 1) r.to_is ∙ next;
            out_is =
                ap (λ (i : ℕ). set (put_mid i (i + c - i) out new) (i + c) v) r.to_is
                ∙ ap₂ (λ (o x : List ℕ). set (put_mid front (front + c - front) o x) (front + c) v) r.out_is e
                ∙ ap (λ (o : List ℕ). set o (front + c) v) (overlaid-put f out₀ front c whole bytes)
                ∙ overlaid-next f out₀ (front + c) v (omega (arith, bytes-are (length out₀) fits.1)) last
                ∙ ap (λ (i : ℕ). overlaid i f out₀) next;
          }

      -- a row of one byte
      single_more : (v : ℕ) → 0 < w → w < 8 → y < h → v ≡ digits (threshold_from t gray at) w * 2 ^ (8 - w)
          → RowsTo t w h gray out₀ (set out to v) (at + w) (to + 1) (y + 1)
      single_more v some narrow k e =
          let f : ℕ → ℕ = byte_at w (threshold_bit t gray) in
          let n = y * row_bytes w in
          let a : w % 8 ≡ w = omega arith in
          let b : y * w + 8 * (w / 8) ≡ at = omega (arith, r.at_is) in
          let c : n + w / 8 ≡ n = omega arith in
          let next : n + 1 ≡ (y + 1) * row_bytes w = omega (arith, add-mul y 1 (row_bytes w)) in
          let u = up_to (row_bytes w) y h k in
          let byte : v ≡ f n =
          e
          ∙ ap₂ (λ (i m : ℕ). digits (threshold_from t gray i) m * 2 ^ (8 - m)) (sym b) (sym a)
          ∙ sym (byte-ending w (threshold_bit t gray) y (omega arith))
          ∙ ap f c in
          record {
            within = omega arith;
            at_is = omega (arith, r.at_is, add-mul y 1 w);
            to_is = omega (arith, r.to_is);
            out_is =
                ap₂ (λ (m : ℕ) (o : List ℕ). set o m v) r.to_is r.out_is
                ∙ overlaid-next f out₀ n v (omega (arith, bytes-are (length out₀) fits.1)) byte
                ∙ ap (λ (m : ℕ). overlaid m f out₀) next;
          }

    -- two rows of three dots or four, from the same eight
    module _ {out : List ℕ} {at y : ℕ} (r : RowsTo t w h gray out₀ out at y y) (wide : 2 < w) (narrow : w < 5) (k : 2 < h - y)
        (b : ℕ) (e : b ≡ digits (threshold_from t gray at) 8) where
      abbrev low : (i : ℕ) → threshold_from t gray at i ≤ 1
      low i = bit_le (leb t (get_or gray (at + i) 0))

      first_byte : bit_and b l.last_byte_pad_mask ≡ digits (threshold_from t gray at) w * 2 ^ (8 - w)
      first_byte =
          let n : w % 8 ≡ w = omega arith in
          ap₂ bit_and e l.mask_is
          ∙ masked w (threshold_from t gray at) low (omega arith)
          ∙ ap (λ (m : ℕ). digits (threshold_from t gray at) m * 2 ^ (8 - m)) n

      second-byte : bit_and (b * 2 ^ w % 256) l.last_byte_pad_mask ≡ digits (threshold_from t gray (at + w)) w * 2 ^ (8 - w)
      second-byte =
          ap₂ (λ (n m : ℕ). bit_and (n * 2 ^ w % 256) m) e l.mask_is
          ∙ masked-second (threshold_from t gray at) low w wide narrow
          ∙ ap (λ (n : ℕ). n * 2 ^ (8 - w))
          (appended-ext 0 (λ i. threshold_from t gray at (w + i)) (threshold_from t gray (at + w)) w
          (λ i _. ap (threshold_bit t gray) (sym (add_assoc at w i))))

      pub two-more : RowsTo t w h gray out₀
          (set (set out y (bit_and b l.last_byte_pad_mask)) (y + 1) (bit_and (b * 2 ^ w % 256) l.last_byte_pad_mask))
          (at + 2 * w) (y + 2) (y + 2)
      two-more =
          let one = single_more r _ (omega arith) (omega arith) (omega arith) first_byte in
          let two = single_more one _ (omega arith) (omega arith) (omega arith) second-byte in
          let p : at + w + w ≡ at + 2 * w = omega arith in
          let q : y + 1 + 1 ≡ y + 2 = omega arith in
          rw (p, q) at two
