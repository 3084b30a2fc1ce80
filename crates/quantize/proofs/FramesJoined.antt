-- THE FRAMES END TO END: what samples finish behind whole frames depends on themselves only (document 01, Making session: "Each frame
-- starts with clean carries, so its dots depend on its own scan only"). So the bytes of several scans are each scan's plane, one after
-- another.
-- Assumes nothing.
use Prim.Native.Nat.{ℕ, suc, ◌+◌, ◌*◌, ◌/◌, ◌%◌, ◌≤◌, ◌<◌}
use mathlib.Core.Path.{◌≡◌, refl, sym, ap, ◌∙◌, fun_ext}
use mathlib.Core.List.{List, [], ◌∷◌, ◌++◌}
use native.Mathlib.Nat.{add-zero, mul-add-div_right, mul-add-mod_self_right}
use native.Mathlib.Omega.{arith}
use lib.Dec.{ltb}
use lib.ListN.{length, get_or, take, drop, length-append}
use lib.Seq.{take-add, get_or-append-add, length-take-le}
use Rattle.error.specs.Choice.{if}
use Rattle.image.specs.Geometry.{row_bytes, plane_bytes}
use Rattle.rules.specs.Rule.{Rule, dither}
use Rattle.rules.specs.Bits.{upto}
use Rattle.quantize.specs.Finished.{Setting, count, frame, dot_of, finished, setting}
use Rattle.rules.specs.Packed.{padded_bit, byte_at}
use Rattle.rules.proofs.DigitsAppended.{appended-ext}
use Rattle.quantize.proofs.Places.{count-rows}
use Rattle.rules.proofs.UptoList.{length-upto, upto-ext, upto_add}
use Rattle.quantize.proofs.DotsDepend.{byte-counted}

-- ---- the bytes of rows

module _ (w : ℕ) (wide : 0 < w) where
  -- the bytes of the rows from r on are those of the dots from there on
  byte-behind : (d : ℕ → ℕ) (r j : ℕ) → byte_at w d (r * row_bytes w + j) ≡ byte_at w (λ i. d (r * w + i)) j
  unfolding byte_at padded_bit
  byte-behind d r j =
      let p : 0 < row_bytes w = omega arith in
      rw (mul-add-div_right p r j, mul-add-mod_self_right r (row_bytes w) j)
      (appended-ext 0 _ _ 8 (λ i l. ap (λ (n : ℕ). if (ltb (8 * (j % row_bytes w) + i) w) (d n) 0)
      (cell (j / row_bytes w) (8 * (j % row_bytes w) + i))))
    where
      cell : (q c : ℕ) → (r + q) * w + c ≡ r * w + (q * w + c)
      cell q c = omega arith

-- ---- samples behind whole frames

module _ (s : Setting) (xs ys : List ℕ) (k : ℕ) (wide : 0 < s.width) (high : 0 < s.height)
    (whole : length xs ≡ k * s.height * s.width) where
  abbrev w : ℕ
  w = s.width

  abbrev h : ℕ
  h = s.height

  frame-behind : (f : ℕ) → frame w h (xs ++ ys) (k + f) ≡ frame w h ys f
  unfolding frame
  frame-behind f =
      fun_ext (λ x. fun_ext (λ y.
      let e : ((k + f) * h + y) * w + x ≡ length xs + ((f * h + y) * w + x) = omega arith in
      ap (λ (i : ℕ). get_or (xs ++ ys) i 0) e ∙ get_or-append-add xs ys ((f * h + y) * w + x) 0))

  -- a dot behind whole frames is that of its own samples
  dot-behind : (n : ℕ) → dot_of s (xs ++ ys) (k * h * w + n) ≡ dot_of s ys n
  unfolding dot_of
  dot-behind n =
      rw (
        mul-add-div_right wide (k * h) n,
        mul-add-mod_self_right (k * h) w n,
        mul-add-div_right high k (n / w),
        mul-add-mod_self_right k h (n / w),
        frame-behind (n / w / h),
      )

  count-behind : (n : ℕ) → count s (k * h * w + n) ≡ k * h * row_bytes w + count s n
  unfolding count
  count-behind n =
      rw (mul-add-div_right wide (k * h) n, mul-add-mod_self_right (k * h) w n, mul-add-mod_self_right k h (n / w)) (omega arith)

  count-whole : count s (length xs) ≡ k * h * row_bytes w
  count-whole = ap (count s) (whole ∙ sym (add-zero (k * h * w))) ∙ count-rows s (k * h) wide

  pub finished-behind : finished s (xs ++ ys) ≡ finished s xs ++ finished s ys
  unfolding finished
  finished-behind =
      let d = dot_of s (xs ++ ys) in
      let n = k * h * row_bytes w in
      let m = count s (length ys) in
      let long : count s (length (xs ++ ys)) ≡ n + m =
      ap (count s) (length-append xs ys ∙ ap (λ (i : ℕ). i + length ys) whole) ∙ count-behind (length ys) in
      let front : upto n (byte_at w d) ≡ upto n (byte_at w (dot_of s xs)) =
      upto-ext (byte_at w d) (byte_at w (dot_of s xs)) n
      (λ j l. byte-counted s wide xs ys j (rw count-whole l)) in
      let rest : upto m (λ j. byte_at w d (n + j)) ≡ upto m (byte_at w (dot_of s ys)) =
      upto-ext (λ j. byte_at w d (n + j)) (byte_at w (dot_of s ys)) m
      (λ j l. byte-behind w wide d (k * h) j ∙ ap (λ (e : ℕ → ℕ). byte_at w e j) (fun_ext dot-behind)) in
      ap (λ (i : ℕ). upto i (byte_at w d)) long
      ∙ upto_add (byte_at w d) n m
      ∙ rw (count-whole, front, rest)

-- ---- scans end to end

-- what is finished does not depend on how many frames there may be
pub finished-frames : (rule : Rule) (w h m n : ℕ) (xs : List ℕ) → finished (setting rule w h m) xs ≡ finished (setting rule w h n) xs
unfolding finished count dot_of
finished-frames rule w h m n xs = refl

module _ (rule : Rule) (w h : ℕ) (gray : List ℕ) (wide : 0 < w) (high : 0 < h) where
  scans-whole : (k : ℕ) → k * (w * h) ≤ length gray → length (take (k * (w * h)) gray) ≡ k * h * w
  scans-whole k l = let e : k * (w * h) ≡ k * h * w = omega arith in length-take-le (k * (w * h)) gray l ∙ e

  pub scans-long : (k : ℕ) → k * (w * h) ≤ length gray
      → length (finished (setting rule w h k) (take (k * (w * h)) gray)) ≡ k * plane_bytes w h
  unfolding finished
  scans-long k l =
      let xs = take (k * (w * h)) gray in
      let s = setting rule w h k in
      let e : k * h * row_bytes w ≡ k * plane_bytes w h = omega arith in
      length-upto (byte_at w (dot_of s xs)) (count s (length xs)) ∙ count-whole s xs [] k wide high (scans-whole k l) ∙ e

  pub scans-none : finished (setting rule w h 0) (take (0 * (w * h)) gray) ≡ []
  unfolding finished upto
  scans-none =
      let xs = take (0 * (w * h)) gray in
      let s = setting rule w h 0 in
      let l : 0 * (w * h) ≤ length gray = omega arith in
      let e : 0 * h * row_bytes w ≡ 0 = omega arith in
      ap (λ (n : ℕ). upto n (byte_at w (dot_of s xs))) (count-whole s xs [] 0 wide high (scans-whole 0 l) ∙ e)

  -- one scan more
  pub scans-more : (k : ℕ) → k * (w * h) ≤ length gray
      → finished (setting rule w h (suc k)) (take (suc k * (w * h)) gray)
      ≡ finished (setting rule w h k) (take (k * (w * h)) gray) ++ finished (setting rule w h 1) (take (w * h) (drop (k * (w * h)) gray))
  scans-more k l =
      let e : suc k * (w * h) ≡ k * (w * h) + w * h = omega arith in
      let xs = take (k * (w * h)) gray in
      let ys = take (w * h) (drop (k * (w * h)) gray) in
      finished-frames rule w h (suc k) k (take (suc k * (w * h)) gray)
      ∙ ap (finished (setting rule w h k)) (ap (λ (n : ℕ). take n gray) e ∙ take-add (k * (w * h)) (w * h) gray)
      ∙ finished-behind (setting rule w h k) xs ys k wide high (scans-whole k l)
      ∙ ap (λ (l : List ℕ). finished (setting rule w h k) xs ++ l) (finished-frames rule w h k 1 ys)

-- an example: two scans of two samples
two-scans : finished (setting dither 2 1 2) (127 ∷ 128 ∷ 128 ∷ 128 ∷ [])
    ≡ finished (setting dither 2 1 1) (127 ∷ 128 ∷ []) ++ finished (setting dither 2 1 1) (128 ∷ 128 ∷ [])
two-scans = scans-more dither 2 1 (127 ∷ 128 ∷ 128 ∷ 128 ∷ []) (omega arith) (omega arith) 1 (omega arith)

two-long : length (finished (setting dither 2 1 2) (127 ∷ 128 ∷ 128 ∷ 128 ∷ [])) ≡ 2
two-long = scans-long dither 2 1 (127 ∷ 128 ∷ 128 ∷ 128 ∷ []) (omega arith) (omega arith) 2 (omega arith)
