-- Places in rows and frames: what one more run of samples does to the place and to the count of finished bytes.
-- Assumes nothing.
use Prim.Native.Nat.{ℕ, ◌+◌, ◌-◌, ◌*◌, ◌/◌, ◌%◌, ◌≤◌, ◌<◌}
use mathlib.Core.Path.{◌≡◌, refl, sym, ap, ◌∙◌}
use mathlib.Core.Logic.{◌⊎◌, ⊎_elim}
use native.Mathlib.Nat.{mod-lt, div-add-mod', eq-or-lt_of_le}
use native.Mathlib.Nat.{add-zero, add-mul, one-mul, add_assoc}
use native.Mathlib.Omega.{arith}
use Rattle.image.specs.Geometry.{row_bytes}
use Rattle.rules.specs.Rule.{Rule, threshold, dither, ordered}
use Rattle.rules.proofs.PlaneBytes.{div-at, mod-at}
use Rattle.quantize.specs.Finished.{Setting, begun_bytes, Bytewise, count}
use Rattle.quantize.specs.Internal.Place.{At}

pub next_row : (w q : ℕ) → q * w + w ≡ (q + 1) * w + 0
next_row w q = rw (add-mul, one-mul, add-zero)

-- ---- the count

-- these rules finish each row byte after byte
pub bytewise : (rule : Rule) (y : ℕ) → Bytewise rule y
unfolding begun_bytes
bytewise (threshold t) y c = refl
bytewise dither y c = refl
bytewise (ordered side table) y c = refl

-- under every rule: none at a row's start, never more than the row has, and more samples finish no less
pub begun-zero : (rule : Rule) (y : ℕ) → begun_bytes rule y 0 ≡ 0
unfolding begun_bytes
begun-zero (threshold t) y = refl
begun-zero dither y = refl
begun-zero (ordered side table) y = refl

pub begun-within : (rule : Rule) (w y c : ℕ) → c < w → begun_bytes rule y c ≤ row_bytes w
unfolding begun_bytes
begun-within (threshold t) w y c h = omega arith
begun-within dither w y c h = omega arith
begun-within (ordered side table) w y c h = omega arith

pub begun-up : (rule : Rule) (y c : ℕ) → begun_bytes rule y c ≤ begun_bytes rule y (c + 1)
unfolding begun_bytes
begun-up (threshold t) y c = omega arith
begun-up dither y c = omega arith
begun-up (ordered side table) y c = omega arith

pub count_at : (s : Setting) (q c : ℕ) → c < s.width
    → count s (q * s.width + c) ≡ q * row_bytes s.width + begun_bytes s.rule (q % s.height) c
unfolding count
count_at s q c h = rw (div-at s.width q c h, mod-at s.width q c h)

-- after full rows
pub count-rows : (s : Setting) (q : ℕ) → 0 < s.width → count s (q * s.width + 0) ≡ q * row_bytes s.width
count-rows s q h =
    count_at s q 0 h ∙ ap (λ (b : ℕ). q * row_bytes s.width + b) (begun-zero s.rule (q % s.height))
    ∙ add-zero (q * row_bytes s.width)

-- ---- the next sample

module _ (s : Setting) (n : ℕ) (wide : 0 < s.width) where
  -- in the same row
  module _ (h : n % s.width + 1 < s.width) where
    on-place : n + 1 ≡ n / s.width * s.width + (n % s.width + 1)
    on-place = let e = div-add-mod' n s.width in omega arith

    pub on_row : (n + 1) / s.width ≡ n / s.width
    on_row = rw on-place (div-at s.width (n / s.width) (n % s.width + 1) h)

    pub on-column : (n + 1) % s.width ≡ n % s.width + 1
    on-column = rw on-place (mod-at s.width (n / s.width) (n % s.width + 1) h)

  -- at the start of the next one
  module _ (h : n % s.width + 1 ≡ s.width) where
    down-place : n + 1 ≡ (n / s.width + 1) * s.width + 0
    down-place =
        let e = div-add-mod' n s.width in
        let t : n + 1 ≡ n / s.width * s.width + s.width = omega arith in t ∙ next_row s.width (n / s.width)

    pub end-column : (n + 1) % s.width ≡ 0
    end-column = rw down-place (mod-at s.width (n / s.width + 1) 0 wide)

  -- where the row is finished byte after byte, the last sample of each byte finishes one
  module _ (b : Bytewise s.rule (n / s.width % s.height)) where
    pub count-now : count s n ≡ n / s.width * row_bytes s.width + n % s.width / 8
    unfolding count
    count-now = rw (b (n % s.width))

    pub count-on : n % s.width + 1 < s.width → count s (n + 1) ≡ n / s.width * row_bytes s.width + (n % s.width + 1) / 8
    unfolding count
    count-on h = rw (on_row h, on-column h, b (n % s.width + 1))

    pub count-end : n % s.width + 1 ≡ s.width → count s (n + 1) ≡ count s n + 1
    count-end h =
        let z : count s (n + 1) ≡ (n / s.width + 1) * row_bytes s.width =
        ap (count s) (down-place h) ∙ count-rows s (n / s.width + 1) wide in
        let u : (n / s.width + 1) * row_bytes s.width ≡ n / s.width * row_bytes s.width + row_bytes s.width =
        rw (add-mul, one-mul) in
        let e : row_bytes s.width ≡ n % s.width / 8 + 1 = omega arith in
        let t = count-now in
        omega arith

    pub count-last : (s.width ≤ n % s.width + 1) ⊎ (7 ≤ n % s.width % 8) → count s (n + 1) ≡ count s n + 1
    count-last k =
        let i : n % s.width < s.width = mod-lt n wide in
        ⊎_elim
        (λ (h : n % s.width + 1 ≡ s.width). count-end h)
        (λ (h : n % s.width + 1 < s.width).
        let a = count-on h in
        let t = count-now in
        let e : (n % s.width + 1) / 8 ≡ n % s.width / 8 + 1 =
        ⊎_elim (λ (f : s.width ≤ n % s.width + 1). let z : ⊥ = omega arith in absurd z) (λ (f : 7 ≤ n % s.width % 8). omega arith) k in
        omega arith)
        (eq-or-lt_of_le (omega arith))

    pub count-open : n % s.width + 1 < s.width → n % s.width % 8 < 7 → count s (n + 1) ≡ count s n
    count-open h k =
        let a = count-on h in
        let t = count-now in
        let e : (n % s.width + 1) / 8 ≡ n % s.width / 8 = omega arith in
        omega arith

-- a column's byte is one of its row
pub col-row : (w c : ℕ) → c < w → c / 8 < row_bytes w
col-row w c h = omega arith

-- ---- from a place to its row and column

module _ (s : Setting) (n frames row column : ℕ) (a : At s n frames row column) where
  abbrev w : ℕ
  w = s.width

  abbrev q : ℕ
  q = (s.frames - frames) * s.height + row

  pub row_is : n / w ≡ q
  row_is = rw a.place (div-at w q column a.in_row)

  pub column-is : n % w ≡ column
  column-is = rw a.place (mod-at w q column a.in_row)

  pub frame-row-is : n / w % s.height ≡ row
  frame-row-is = rw row_is (mod-at s.height (s.frames - frames) row a.in_frame)

  pub frame_is : n / w / s.height ≡ s.frames - frames
  frame_is = rw row_is (div-at s.height (s.frames - frames) row a.in_frame)

  -- m samples more, in the same row
  module _ (m : ℕ) (left : 0 < frames) (h : column + m < w) where
    in_place : n + m ≡ q * w + (column + m)
    in_place = let p = a.place in omega arith

    pub at-inside : At s (n + m) frames row (column + m)
    at-inside =
        record { in_row = h; in_frame = a.in_frame; most = a.most; place = in_place; full = λ z. let f : ⊥ = omega arith in absurd f }

  -- m samples more, to the row's end
  module _ (m : ℕ) (left : 0 < frames) (h : column + m ≡ w) where
    end-place : n + m ≡ (q + 1) * w + 0
    end-place = let p = a.place in let e : n + m ≡ q * w + w = omega arith in e ∙ next_row w q

    wide : 0 < w
    wide = let i = a.in_row in omega arith

    pub at_row : row + 1 < s.height → At s (n + m) frames (row + 1) 0
    at_row k =
        record {
          in_row = wide;
          in_frame = k;
          most = a.most;
          place = end-place ∙ ap (λ (t : ℕ). t * w + 0) (add_assoc ((s.frames - frames) * s.height) row 1);
          full = λ z. let f : ⊥ = omega arith in absurd f;
        }

    pub at-frame : s.height ≤ row + 1 → At s (n + m) (frames - 1) 0 0
    at-frame k =
        let i = a.in_frame in
        let b = a.most in
        let g : s.frames - (frames - 1) ≡ s.frames - frames + 1 = omega arith in
        let e : (s.frames - (frames - 1)) * s.height + 0 ≡ q + 1 = rw (g, add-mul, one-mul) (omega arith) in
        record {
          in_row = wide;
          in_frame = omega arith;
          most = omega arith;
          place = end-place ∙ ap (λ (t : ℕ). t * w + 0) (sym e);
          full = λ z. (refl, refl);
        }
