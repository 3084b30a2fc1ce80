-- The most samples whose finished bytes fit.
-- Assumes nothing.
use Prim.Native.Nat.{ℕ, zero, suc, ◌+◌, ◌-◌, ◌*◌, ◌/◌, ◌%◌, ◌≤◌, ◌<◌, min}
use mathlib.Core.Path.{◌≡◌, sym, ◌∙◌, subst}
use mathlib.Core.Logic.{◌⊎◌, inl, inr, ⊎_elim}
use native.Mathlib.Nat.{mod-lt, div-add-mod', eq-or-lt_of_le, add-zero, add-mul, one-mul, mul-le-mul_right}
use native.Mathlib.Decide.{dec_le}
use native.Mathlib.Omega.{arith}
use borrow.Author.Tests.{le-leb, lt-leb}
use Rattle.image.specs.Geometry.{row_bytes}
use Rattle.laws.proofs.Tests.{if-true, if-false}
use Rattle.quantize.specs.Finished.{Setting, Bytewise, count, most, takes}
use Rattle.quantize.specs.Internal.Place.{At}
use Rattle.quantize.proofs.Places.{next_row, begun-within, begun-up, count_at, count-rows, count-last, column-is, frame-row-is}

count-up : (s : Setting) (n : ℕ) → 0 < s.width → count s n ≤ count s (n + 1)
count-up s n p =
    let w = s.width in
    let q = n / w in
    let c = n % w in
    let e : n ≡ q * w + c = sym (div-add-mod' n w) in
    let h : c < w = mod-lt n p in
    subst (λ (k : ℕ). count s k ≤ count s (k + 1)) (sym e) (go q c h)
  where
    go : (q c : ℕ) → c < s.width → count s (q * s.width + c) ≤ count s (q * s.width + c + 1)
    go q c h =
        let a = count_at s q c h in
        ⊎_elim
        (λ (k : c + 1 ≡ s.width).
        let e : q * s.width + c + 1 ≡ q * s.width + s.width = omega arith in
        let z : (q + 1) * row_bytes s.width ≡ q * row_bytes s.width + row_bytes s.width = rw (add-mul, one-mul) in
        let b = count-rows s (q + 1) p in
        let u = begun-within s.rule s.width (q % s.height) c h in
        rw (e, next_row s.width q) (omega arith))
        (λ (k : c + 1 < s.width).
        let e : q * s.width + c + 1 ≡ q * s.width + (c + 1) = omega arith in
        let b = count_at s q (c + 1) k in
        let u = begun-up s.rule (q % s.height) c in
        rw e (omega arith))
        (eq-or-lt_of_le (omega arith))

pub count-mono : (s : Setting) (n k : ℕ) → 0 < s.width → count s n ≤ count s (n + k)
count-mono s n zero p = rw add-zero (omega arith)
count-mono s n (suc k) p =
    let e : n + suc k ≡ n + k + 1 = omega arith in
    rw e (omega (arith, count-mono s n k p, count-up s (n + k) p))

pub most-is : (s : Setting) (n room k i : ℕ) → 0 < s.width → i ≤ k → count s (n + i) ≤ count s n + room
    → (i ≡ k) ⊎ (count s n + room < count s (n + i + 1)) → most s n room k ≡ i
unfolding most
most-is s n room zero i p h f t = omega arith
most-is s n room (suc k) i p h f t =
    ⊎_elim
    (λ (e : i ≡ suc k). if-true _ _ _ (le-leb (count s (n + suc k)) (count s n + room)
    (subst (λ (m : ℕ). count s (n + m) ≤ count s n + room) e f)) ∙ sym e)
    (λ (l : i < suc k).
    let b : count s n + room < count s (n + i + 1) = ⊎_elim (λ e. absurd (omega arith)) (λ b. b) t in
    let g : n + suc k ≡ n + i + 1 + (k - i) = omega arith in
    let m : count s (n + i + 1) ≤ count s (n + suc k) = rw g (count-mono s (n + i + 1) (k - i) p) in
    if-false _ _ _ (lt-leb (count s (n + suc k)) (count s n + room) (omega arith)) ∙ most-is s n room k i p (omega arith) f (inr b))
    (eq-or-lt_of_le h)

-- ---- the end of the last frame

abbrev total : Setting → ℕ
total s = s.frames * s.height * s.width

-- no place is past it, and only the last frame's end has no frame left
module _ (s : Setting) (n frames row column : ℕ) (a : At s n frames row column) where
  pub at-end : frames ≤ 0 → n ≡ total s
  at-end h =
      let z : frames ≡ 0 = omega arith in
      let f = a.full z in
      let g : s.frames - frames ≡ s.frames = omega arith in
      let e : (s.frames - frames) * s.height + row ≡ s.frames * s.height = rw (g, f.0, add-zero) in
      a.place ∙ rw (e, f.1, add-zero)

  pub at-within : n ≤ total s
  at-within = ⊎_elim (λ (z : frames ≤ 0). omega (arith, at-end z)) (λ (l : 0 < frames). inside l) (le-or-lt frames 0)
    where
      le-or-lt : (x y : ℕ) → (x ≤ y) ⊎ (y < x)
      le-or-lt x y = elim (dec_le x y) [ yes h ↦ inl h | no h ↦ inr (omega arith) ]

      inside : 0 < frames → n ≤ total s
      inside l =
          let p = a.place in
          let i = a.in_row in
          let j = a.in_frame in
          let b = a.most in
          let g = s.frames - frames in
          let r : (g * s.height + row + 1) * s.width ≤ s.frames * s.height * s.width =
          mul-le-mul_right s.width
          (let m : (g + 1) * s.height ≤ s.frames * s.height = mul-le-mul_right s.height (omega arith) in
          let e : (g + 1) * s.height ≡ g * s.height + s.height = rw (add-mul, one-mul) in
          omega arith) in
          let e : (g * s.height + row + 1) * s.width ≡ (g * s.height + row) * s.width + s.width = rw (add-mul, one-mul) in
          omega arith

-- ---- what is taken, where the loop ends

pub takes_all : (s : Setting) (n samples room taken frames row column : ℕ) → At s (n + taken) frames row column → taken ≤ samples
    → count s (n + taken) ≤ count s n + room
    → (frames ≤ 0) ⊎ ((samples ≤ taken) ⊎ (count s n + room < count s (n + taken + 1))) → takes s n samples room ≡ taken
unfolding takes
takes_all s n samples room taken frames row column a h f why =
    let t = at-within s (n + taken) frames row column a in
    let p : 0 < s.width = let i = a.in_row in omega arith in
    most-is s n room (min samples (total s - n)) taken p (omega arith) f
    (⊎_elim
    (λ z. let e = at-end s (n + taken) frames row column a z in inl (omega arith))
    (λ k. ⊎_elim (λ l. inl (omega arith)) (λ b. inr b) k)
    why)

-- where the row is finished byte after byte, the next sample would finish one
pub next-byte : (s : Setting) (n frames row column : ℕ) → At s n frames row column → Bytewise s.rule row
    → (column + 1 ≡ s.width) ⊎ (column % 8 ≡ 7) → count s (n + 1) ≡ count s n + 1
next-byte s n frames row column a b h =
    let c = column-is s n frames row column a in
    let wide : 0 < s.width = let i = a.in_row in omega arith in
    count-last s n wide (subst (λ (y : ℕ). Bytewise s.rule y) (sym (frame-row-is s n frames row column a)) b)
    (⊎_elim (λ (e : column + 1 ≡ s.width). inl (omega arith)) (λ (e : column % 8 ≡ 7). inr (rw c (omega arith))) h)
