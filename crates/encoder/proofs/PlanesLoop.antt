-- Planes end to end as a file has them: their bytes, and the loop of `write_planes`.
use Prim.Native.Nat.{ℕ, zero, suc, ◌+◌, ◌-◌, ◌*◌, ◌≤◌, ◌<◌}
use mathlib.Core.Path.{◌≡◌, refl, sym, ap, ◌∙◌, subst}
use mathlib.Core.List.{List, ◌++◌}
use native.Mathlib.Nat.{suc-mul, mul_comm}
use native.Mathlib.Numerals.{add-one}
use native.Mathlib.Omega.{arith}
use borrow.Rule.Slice.PartMut.{mid_of, put_mid}
use lib.ListN.{length, take, drop, length-append}
use lib.Seq.{sets, length-sets}
use Rattle.std.proofs.Common.{Result}
use Rattle.std.specs.Result.{IsOk}
use Rattle.error.specs.declared.WbmpError.{WbmpError}
use Rattle.error.specs.Answer.{Answer, gives, written}
use Rattle.error.specs.Emits.{Emits}
use Rattle.laws.proofs.Runs.{sets-append, sets-front, emits-part}
use Rattle.laws.proofs.Products.{up_to}
use Rattle.image.specs.Geometry.{row_bytes, plane_bytes, needed_bytes}
use Rattle.image.specs.Rows.{wire_bits}
use Rattle.image.specs.declared.PixelFormat.{PixelFormat}
use Rattle.image.proofs.WireRows.{wire-length}
use Rattle.encoder.specs.Write.{lent_plane, wire_planes}
use Rattle.encoder.proofs.Written.{is-written}

module _ (f : PixelFormat) (w h s : ℕ) where
  pub plane-length : (plane : List ℕ) → length (wire_bits f w h s plane) ≡ plane_bytes w h
  plane-length plane = wire-length f w s plane h ∙ mul_comm h (row_bytes w)

  module _ (planes : List ℕ) where
    pub planes-length : (k : ℕ) → length (wire_planes f w h s planes k) ≡ k * plane_bytes w h
    unfolding wire_planes
    planes-length zero = omega arith
    planes-length (suc k) =
        length-append (wire_planes f w h s planes k) (wire_bits f w h s (lent_plane w h s planes k))
        ∙ ap (λ (n : ℕ). n + length (wire_bits f w h s (lent_plane w h s planes k))) (planes-length k)
        ∙ ap (λ (n : ℕ). k * plane_bytes w h + n) (plane-length (lent_plane w h s planes k))
        ∙ sym (suc-mul k (plane_bytes w h))

-- the planes before k are written
pub record Planing (f : PixelFormat) (w h s : ℕ) (planes out₀ : List ℕ) (count plane needed : ℕ) (out : List ℕ) (k : ℕ) : Type 0 where
  pub plane_is : plane ≡ plane_bytes w h
  pub needed_is : needed ≡ needed_bytes w h s
  pub within : k ≤ count
  pub inside : count * needed ≤ length planes
  pub room : count * plane ≤ length out₀
  pub now_is : out ≡ sets out₀ 0 (wire_planes f w h s planes k)

pub begun : (f : PixelFormat) (w h s : ℕ) (planes out : List ℕ) (count plane needed : ℕ) → plane ≡ plane_bytes w h
    → needed ≡ needed_bytes w h s
    → count * needed_bytes w h s ≤ length planes → count * plane_bytes w h ≤ length out → Planing f w h s planes out count plane needed out 0
unfolding wire_planes
begun f w h s planes out count plane needed e d a b =
    record { plane_is = e; needed_is = d; within = omega arith; inside = rw d a; room = rw e b; now_is = refl }

module _ {f : PixelFormat} {w h s : ℕ} {planes out₀ : List ℕ} {count plane needed : ℕ} {out : List ℕ} {k : ℕ}
    (c : Planing f w h s planes out₀ count plane needed out k) where
  pub kept-length : length out ≡ length out₀
  kept-length = ap length c.now_is ∙ length-sets out₀ 0 (wire_planes f w h s planes k)

  -- plane k is among those that are lent and has room in the output
  pub next-in : k < count → (k * needed + needed ≤ length planes) × (k * plane + plane ≤ length out)
  next-in l =
      let p = up_to needed k count l in
      let q = up_to plane k count l in
      let n = kept-length in
      (omega (arith, c.inside), omega (arith, c.room))

  source_is : (from : ℕ) → from ≡ k * needed → take (from + needed - from) (drop from planes) ≡ lent_plane w h s planes k
  source_is from p =
      let e : from + needed - from ≡ needed = omega arith in
      ap (λ (n : ℕ). take n (drop from planes)) e
      ∙ ap (λ (n : ℕ). take needed (drop n planes)) p
      ∙ ap (λ (n : ℕ). take n (drop (k * n) planes)) c.needed_is

  front : length (wire_planes f w h s planes k) ≡ k * plane
  front = planes-length f w h s planes k ∙ ap (λ (n : ℕ). k * n) (sym c.plane_is)

  -- plane k, and where it goes
  module _ (from to : ℕ) (l : k < count) (p : from ≡ k * needed) (t : to ≡ k * plane) where
    abbrev v : List ℕ
    v = wire_bits f w h s (lent_plane w h s planes k)

    fits : to + length v ≤ length out
    fits =
        let n : length v ≡ plane_bytes w h = plane-length f w h s (lent_plane w h s planes k) in
        omega (arith, (next-in l).1, c.plane_is)

    module _ (r : Answer ℕ) (new : List ℕ)
        (e : Emits (gives (wire_bits f w h s (take (from + needed - from) (drop from planes)))) r (mid_of to (length out - to) out) new) where
      pub emits-plane : Emits (gives v) r (mid_of to (length out - to) out) new
      emits-plane =
          subst (λ (q : List ℕ). Emits (gives (wire_bits f w h s q)) r (mid_of to (length out - to) out) new) (source_is from p) e

      pub planed : Planing f w h s planes out₀ count plane needed (put_mid to (length out - to) out new) (k + 1)
      unfolding wire_planes
      planed =
          let at_front : to ≡ 0 + length (wire_planes f w h s planes k) = omega (arith, front) in
          record {
            plane_is = c.plane_is;
            needed_is = c.needed_is;
            within = omega arith;
            inside = c.inside;
            room = c.room;
            now_is =
                emits-part to out v new r fits emits-plane
                ∙ ap (λ (q : ℕ). sets out q v) at_front
                ∙ ap (λ (q : List ℕ). sets q (0 + length (wire_planes f w h s planes k)) v) c.now_is
                ∙ sets-append out₀ 0 (wire_planes f w h s planes k) v
                ∙ ap (λ (q : ℕ). sets out₀ 0 (wire_planes f w h s planes q)) (sym (add-one k));
          }

    -- no plane is refused
    pub plane-written : (r : Result ℕ WbmpError) (new : List ℕ)
        → Emits (gives (wire_bits f w h s (take (from + needed - from) (drop from planes)))) (written r) (mid_of to (length out - to) out) new
        → IsOk r
    plane-written r new e = is-written v r to out new fits (emits-plane (written r) new e)

  pub ended : count ≤ k → out ≡ wire_planes f w h s planes count ++ drop (count * plane_bytes w h) out₀
  ended l =
      let e : k ≡ count = omega (arith, c.within) in
      let n : length (wire_planes f w h s planes count) ≡ count * plane_bytes w h = planes-length f w h s planes count in
      let m : count * plane_bytes w h ≡ count * plane = ap (λ (q : ℕ). count * q) (sym c.plane_is) in
      c.now_is
      ∙ ap (λ (q : ℕ). sets out₀ 0 (wire_planes f w h s planes q)) e
      ∙ sets-front out₀ (wire_planes f w h s planes count) (omega (arith, c.room))
      ∙ ap (λ (q : ℕ). wire_planes f w h s planes count ++ drop q out₀) n
