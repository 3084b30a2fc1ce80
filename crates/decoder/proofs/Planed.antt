-- Planes end to end: their bytes, and the loop of `write_planes`.
use Prim.Native.Nat.{ℕ, zero, suc, ◌+◌, ◌-◌, ◌*◌, ◌≤◌, ◌<◌}
use mathlib.Core.Path.{◌≡◌, refl, sym, ap, ◌∙◌}
use mathlib.Core.List.{List, ◌++◌}
use native.Mathlib.Nat.{suc-mul, mul-le-mul_right}
use native.Mathlib.Numerals.{add-one}
use native.Mathlib.Omega.{arith}
use borrow.Rule.Slice.PartMut.{mid_of, put_mid}
use lib.ListN.{length, take, drop, length-append, length-drop}
use lib.Seq.{sets, length-sets, take_all}
use Rattle.laws.proofs.Lists.{length_part}
use Rattle.laws.proofs.Runs.{sets-append, sets-front, sets-part}
use Rattle.laws.proofs.Products.{up_to}
use Rattle.header.specs.Read.{Outline}
use Rattle.image.specs.Geometry.{row_bytes}
use Rattle.image.specs.Rows.{convert_format}
use Rattle.image.specs.declared.PixelFormat.{PixelFormat}
use Rattle.image.specs.declared.PixelFormat.TheVariants.{MonoBlack}
use Rattle.image.proofs.ConvertedBytes.{format-length}
use Rattle.decoder.specs.Body.{plane_of, source_plane, plane_at, planes}

-- the stretch that is lent has room for a plane
pub lent-room : (from plane to : ℕ) (bytes out : List ℕ) → from + plane ≤ length bytes → to + plane ≤ length out
    → length (take (from + plane - from) (drop from bytes)) ≤ length (mid_of to (length out - to) out)
lent-room from plane to bytes out a b =
    let e : from + plane - from ≡ plane = omega arith in
    let d : mid_of to (length out - to) out ≡ drop to out =
    take_all (length out - to) (drop to out) (rw (length-drop to out) (omega arith)) in
    rw (e, length_part plane from bytes a, d, length-drop to out) (omega arith)

-- one plane more
pub one_less : (a k n size : ℕ) → a + suc k * n ≤ size → (a + k * n ≤ size) × (a + k * n + n ≤ size)
one_less a k n size h = let e = suc-mul k n in (omega arith, omega arith)

module _ (f : PixelFormat) (bytes : List ℕ) (h : Outline) where
  pub plane-length : (k : ℕ) → h.body + k * plane_of h + plane_of h ≤ length bytes → length (plane_at f bytes h k) ≡ plane_of h
  unfolding plane_at
  plane-length k b =
      format-length MonoBlack f h.width h.height (row_bytes h.width) (source_plane bytes h k)
      ∙ length_part (plane_of h) (h.body + k * plane_of h) bytes b

  pub planes-length : (k : ℕ) → h.body + k * plane_of h ≤ length bytes → length (planes f bytes h k) ≡ k * plane_of h
  unfolding planes
  planes-length zero b = omega arith
  planes-length (suc k) b =
      let l = one_less h.body k (plane_of h) (length bytes) b in
      length-append (planes f bytes h k) (plane_at f bytes h k)
      ∙ ap (λ (n : ℕ). n + length (plane_at f bytes h k)) (planes-length k l.0)
      ∙ ap (λ (n : ℕ). k * plane_of h + n) (plane-length k l.1)
      ∙ sym (suc-mul k (plane_of h))

-- the planes before k are written
pub record Planing (f : PixelFormat) (bytes : List ℕ) (h : Outline) (out₀ : List ℕ) (plane frames : ℕ) (out : List ℕ) (k : ℕ) : Type 0 where
  pub plane_is : plane ≡ plane_of h
  pub within : k ≤ frames
  pub inside : h.body + frames * plane ≤ length bytes
  pub room : frames * plane ≤ length out₀
  pub now_is : out ≡ sets out₀ 0 (planes f bytes h k)

pub begun : (f : PixelFormat) (bytes : List ℕ) (h : Outline) (out : List ℕ) (plane frames : ℕ) → plane ≡ plane_of h
    → h.body + frames * plane_of h ≤ length bytes → frames * plane_of h ≤ length out → Planing f bytes h out plane frames out 0
unfolding planes
begun f bytes h out plane frames e a b =
    record { plane_is = e; within = omega arith; inside = rw e a; room = rw e b; now_is = refl }

module _ {f : PixelFormat} {bytes : List ℕ} {h : Outline} {out₀ : List ℕ} {plane frames : ℕ} {out : List ℕ} {k : ℕ}
    (c : Planing f bytes h out₀ plane frames out k) where
  pub kept-length : length out ≡ length out₀
  kept-length = ap length c.now_is ∙ length-sets out₀ 0 (planes f bytes h k)

  -- plane k is in the file and in the output
  pub next-in : k < frames → (h.body + k * plane + plane ≤ length bytes) × (k * plane + plane ≤ length out)
  next-in l =
      let p = up_to plane k frames l in
      let q = kept-length in
      (omega (arith, c.inside), omega (arith, c.room))

  pub source_is : (from : ℕ) → from ≡ h.body + k * plane → take (from + plane - from) (drop from bytes) ≡ source_plane bytes h k
  source_is from p =
      let e : from + plane - from ≡ plane = omega arith in
      ap (λ (n : ℕ). take n (drop from bytes)) e
      ∙ ap (λ (n : ℕ). take plane (drop n bytes)) p
      ∙ ap (λ (n : ℕ). take n (drop (h.body + k * n) bytes)) c.plane_is

  front : k ≤ frames → length (planes f bytes h k) ≡ k * plane
  front l =
      let p : k * plane ≤ frames * plane = mul-le-mul_right plane l in
      let b : h.body + k * plane ≤ length bytes = omega (arith, c.inside) in
      planes-length f bytes h k (rw c.plane_is at b) ∙ rw c.plane_is

  pub planed : (to : ℕ) (source new : List ℕ) → k < frames → to ≡ k * plane → source ≡ source_plane bytes h k
      → new ≡ convert_format MonoBlack f h.width h.height (row_bytes h.width) source ++ drop (length source)
      (mid_of to (length out - to) out)
      → Planing f bytes h out₀ plane frames (put_mid to (length out - to) out new) (k + 1)
  unfolding planes plane_at
  planed to source new l t s e =
      let v = plane_at f bytes h k in
      let b : h.body + k * plane_of h + plane_of h ≤ length bytes = rw c.plane_is at (next-in l).0 in
      let n : length v ≡ plane_of h = plane-length f bytes h k b in
      let m : length source ≡ length v = ap length s ∙ length_part (plane_of h) (h.body + k * plane_of h) bytes b ∙ sym n in
      let fits : to + length v ≤ length out = omega (arith, (next-in l).1, c.plane_is) in
      let d : mid_of to (length out - to) out ≡ drop to out =
      take_all (length out - to) (drop to out) (rw (length-drop to out) (omega arith)) in
      let new_is : new ≡ v ++ drop (length v) (drop to out) =
      e ∙ ap (λ (q : List ℕ). convert_format MonoBlack f h.width h.height (row_bytes h.width) q ++ drop (length source)
      (mid_of to (length out - to) out)) s
      ∙ ap (λ (q : ℕ). v ++ drop q (mid_of to (length out - to) out)) m
      ∙ ap (λ (q : List ℕ). v ++ drop (length v) q) d in
      let at_front : to ≡ 0 + length (planes f bytes h k) = omega (arith, front c.within) in
      record {
        plane_is = c.plane_is;
        within = omega arith;
        inside = c.inside;
        room = c.room;
        now_is =
            ap (put_mid to (length out - to) out) new_is
            ∙ sets-part out v to fits
            ∙ ap (λ (q : ℕ). sets out q v) at_front
            ∙ ap (λ (q : List ℕ). sets q (0 + length (planes f bytes h k)) v) c.now_is
            ∙ sets-append out₀ 0 (planes f bytes h k) v
            ∙ ap (λ (q : ℕ). sets out₀ 0 (planes f bytes h q)) (sym (add-one k));
      }

  pub ended : frames ≤ k → out ≡ planes f bytes h frames ++ drop (frames * plane_of h) out₀
  ended l =
      let e : k ≡ frames = omega (arith, c.within) in
      let n : length (planes f bytes h frames) ≡ frames * plane =
      ap (λ (k : ℕ). length (planes f bytes h k)) (sym e) ∙ front c.within ∙ ap (λ (k : ℕ). k * plane) e in
      c.now_is ∙ ap (λ (k : ℕ). sets out₀ 0 (planes f bytes h k)) e
      ∙ sets-front out₀ (planes f bytes h frames) (omega (arith, c.room))
      ∙ ap (λ (q : ℕ). planes f bytes h frames ++ drop q out₀) (n ∙ ap (λ (q : ℕ). frames * q) c.plane_is)
