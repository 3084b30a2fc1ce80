-- One frame's bytes as a plane of dots, each by its sample's number: what a plane that is written at once has to hold.
-- Assumes nothing.
use Prim.Native.Nat.{ℕ, ◌+◌, ◌*◌, ◌/◌, ◌%◌, ◌≤◌, ◌<◌}
use mathlib.Core.Path.{◌≡◌, refl, sym, ap, ◌∙◌, fun_ext}
use mathlib.Core.Logic.{⊎_elim}
use mathlib.Core.List.{List, ◌++◌}
use native.Mathlib.Nat.{div-lt_iff_lt-mul, div-eq_of_lt, mod-eq_of_lt, mul_comm}
use native.Mathlib.Omega.{arith}
use borrow.Author.Tests.{leb-true}
use lib.IntN.{ℤ}
use lib.ListN.{length, get_or, take, drop, take-append-drop}
use lib.Seq.{length-take-le}
use Rattle.error.specs.Answer.{gives}
use Rattle.laws.proofs.Products.{up_to}
use Rattle.laws.proofs.Tests.{zero_one}
use Rattle.image.specs.Geometry.{row_bytes, plane_bytes}
use Rattle.options.specs.declared.Quantize.TheVariants.{Threshold, Dither}
use Rattle.rules.specs.Bits.{upto, bit}
use Rattle.rules.specs.Diffusion.{white, value_at}
use Rattle.rules.specs.Internal.Kernels.{threshold_bit}
use Rattle.rules.specs.Internal.Planes.{plane_where, dither_bit}
use Rattle.rules.specs.Rule.{Rule, threshold, dither, rightwards, dot}
use Rattle.quantize.specs.Finished.{Setting, count, frame, dot_of, finished, setting}
use Rattle.quantize.specs.Whole.{scan_checked, Quantizes}
use Rattle.rules.specs.Packed.{padded_bit, byte_at}
use Rattle.laws.proofs.Tests.{lt-or-le}
use Rattle.rules.proofs.DigitsAppended.{appended-ext}
use Rattle.rules.proofs.UptoList.{upto-ext}
use Rattle.rules.proofs.PlaneBytes.{bit_in, bit_past}
use Rattle.rules.proofs.PlaneWritten.{plane-in}
use Rattle.diffusion.specs.Internal.Rows.{DitherPlane}
use Rattle.diffusion.proofs.PlaneServed.{plane-dithered}
use Rattle.quantize.proofs.DotsDepend.{place_of, byte-counted}
use Rattle.quantize.proofs.WholePlanes.{count-all, passed, quantizes-plane}

-- ---- the bytes of h rows depend on the dots of these rows only

module _ (w h : ℕ) (wide : 0 < w) (d e : ℕ → ℕ) (same : (n : ℕ) → n < h * w → d n ≡ e n) where
  bit-same : (q c : ℕ) → q < h → padded_bit w d q c ≡ padded_bit w e q c
  bit-same q c l =
      ⊎_elim
      (λ (k : c < w). bit_in w d q c k ∙ same (q * w + c) (omega (arith, up_to w q h l)) ∙ sym (bit_in w e q c k))
      (λ (k : w ≤ c). bit_past w d q c k ∙ sym (bit_past w e q c k))
      (lt-or-le c w)

  rows_same : upto (h * row_bytes w) (byte_at w d) ≡ upto (h * row_bytes w) (byte_at w e)
  unfolding byte_at
  rows_same =
      let p : 0 < row_bytes w = omega arith in
      upto-ext (byte_at w d) (byte_at w e) (h * row_bytes w)
      (λ j l. appended-ext 0 _ _ 8 (λ i o. bit-same (j / row_bytes w) (8 * (j % row_bytes w) + i) ((div-lt_iff_lt-mul p).1 l)))

-- ---- one frame

module _ (rule : Rule) (w h : ℕ) (gray : List ℕ) (wide : 0 < w) (high : 0 < h) (enough : w * h ≤ length gray) where
  abbrev s : Setting
  s = setting rule w h 1

  -- the samples behind the frame's alter nothing
  finished-among : finished s (take (w * h) gray) ≡ upto (h * row_bytes w) (byte_at w (dot_of s gray))
  unfolding finished
  finished-among =
      let xs = take (w * h) gray in
      let ys = drop (w * h) gray in
      let c : count s (length xs) ≡ h * row_bytes w = ap (count s) (length-take-le (w * h) gray enough) ∙ count-all rule w h wide high in
      let g : xs ++ ys ≡ gray = take-append-drop (w * h) gray in
      ap (λ (n : ℕ). upto n (byte_at w (dot_of s xs))) c
      ∙ upto-ext (byte_at w (dot_of s xs)) (byte_at w (dot_of s gray)) (h * row_bytes w)
      (λ j l. sym (byte-counted s wide xs ys j (rw c l)) ∙ ap (λ (r : List ℕ). byte_at w (dot_of s r) j) g)

  -- whatever gives the dots of the frame's samples
  pub plane-by : (d : ℕ → ℕ) → ((n : ℕ) → n < h * w → dot_of s gray n ≡ d n)
      → finished s (take (w * h) gray) ≡ upto (h * row_bytes w) (byte_at w d)
  plane-by d e = finished-among ∙ rows_same w h wide (dot_of s gray) d e

-- ---- the rules

pub threshold-plane : (t w h : ℕ) (gray : List ℕ) → 0 < w → 0 < h → w * h ≤ length gray
    → finished (setting (threshold t) w h 1) (take (w * h) gray) ≡ upto (h * row_bytes w) (byte_at w (threshold_bit t gray))
unfolding dot_of dot frame
threshold-plane t w h gray wide high enough =
    plane-by (threshold t) w h gray wide high enough _ (λ n l. ap (threshold_bit t gray) (sym (place_of w h n)))

-- so the plane that the rule writes at once is what a whole call promises
pub quantizes-threshold : (t w h : ℕ) (gray out : List ℕ) (work : List ℤ)
    → scan_checked (Threshold t) w h (length gray) (length work) ≡ gives tt → plane_bytes w h ≤ length out → (out' : List ℕ)
    → out' ≡ plane_where w h (threshold_bit t gray) (length gray) out
    → Quantizes (Threshold t) w h gray out work (gives (plane_bytes w h)) out' work
quantizes-threshold t w h gray out work z l out' o =
    let p = passed (Threshold t) w h (length gray) (length work) z in
    quantizes-plane (Threshold t) w h gray out work z l (threshold_bit t gray) out' work (threshold-plane t w h gray p.wide p.high p.enough)
    o refl (λ _. refl)

frame-first : (w h : ℕ) (gray : List ℕ) → frame w h gray 0 ≡ (λ x y. get_or gray (y * w + x) 0)
unfolding frame
frame-first w h gray =
    fun_ext (λ x. fun_ext (λ y.
    let e : (0 * h + y) * w + x ≡ y * w + x = omega arith in
    ap (λ (i : ℕ). get_or gray i 0) e))

pub dither-plane : (w h : ℕ) (gray : List ℕ) → 0 < w → 0 < h → w * h ≤ length gray
    → finished (setting dither w h 1) (take (w * h) gray)
    ≡ upto (h * row_bytes w) (byte_at w (λ n. bit (white (value_at rightwards w (λ x y. get_or gray (y * w + x) 0) (n % w) (n / w)))))
unfolding dot_of dot
dither-plane w h gray wide high enough =
    plane-by dither w h gray wide high enough _
    (λ n l.
    let q : n / w < h = (div-lt_iff_lt-mul wide).1 l in
    rw (div-eq_of_lt q, mod-eq_of_lt q, frame-first w h gray))

pub quantizes-dither : (w h : ℕ) (gray out : List ℕ) (work : List ℤ) → scan_checked Dither w h (length gray) (length work) ≡ gives tt
    → plane_bytes w h ≤ length out → (out' : List ℕ) (work' : List ℤ) → DitherPlane w h gray out work out' work'
    → Quantizes Dither w h gray out work (gives (plane_bytes w h)) out' work'
quantizes-dither w h gray out work z l out' work' d =
    let p = passed Dither w h (length gray) (length work) z in
    let m = mul_comm (row_bytes w) h in
    let k : 2 * w ≤ length work = leb-true (2 * w) (length work) p.room in
    quantizes-plane Dither w h gray out work z l (dither_bit w gray) out' work' (dither-plane w h gray p.wide p.high p.enough)
    (plane-dithered w h gray out work p.enough (omega arith) (omega arith) out' work' d
    ∙ sym (plane-in w h (dither_bit w gray) (length gray) out (p.enough, omega arith)))
    d.beyond (λ f. zero_one (cc))
