-- Counting the planes of a body.
use Prim.Native.Nat.{ℕ, ◌+◌, ◌-◌, ◌*◌, ◌/◌, ◌≤◌}
use mathlib.Core.Path.{◌≡◌, refl, sym, ap, ◌∙◌}
use mathlib.Core.Bool.{Bool, true, false}
use native.Mathlib.Nat.{div-mul-le_self, mul-le-mul_right}
use native.Mathlib.Omega.{arith}
use borrow.Author.Tests.{leb-true, leb-false, le-leb}
use lib.Dec.{leb}
use Rattle.error.specs.Choice.{if}
use Rattle.laws.proofs.Tests.{if-true}
use Rattle.header.specs.Read.{parsed}
use Rattle.header.specs.declared.ParsedHeader.{ParsedHeader}
use Rattle.image.specs.Layout.{layout_of}
use Rattle.image.specs.declared.PlaneLayout.{PlaneLayout}
use Rattle.decoder.specs.Body.{extra_frames, plane_of, frames_in}

module _ (most plane body : ℕ) where
  abbrev whole : ℕ
  whole = (body - plane) / plane

  pub few : whole ≤ most → whole ≡ extra_frames most plane body
  few h = sym (if-true (leb whole most) whole most (le-leb whole most h))

  pub many : most ≤ whole → most ≡ extra_frames most plane body
  many h = go (leb whole most) refl
    where
      go : (t : Bool) → leb whole most ≡ t → most ≡ if t whole most
      go true e = let k = leb-true whole most e in omega arith
      go false e = refl

  pub least : (t : Bool) → leb whole most ≡ t → (if t whole most ≤ most) × (if t whole most ≤ whole)
  least true e = (leb-true whole most e, omega arith)
  least false e = let h = leb-false whole most e in (omega arith, omega arith)

  pub at_most : extra_frames most plane body ≤ most
  at_most = (least (leb whole most) refl).0

  -- the planes that are counted are all there
  pub frames-fit : plane ≤ body → (1 + extra_frames most plane body) * plane ≤ body
  frames-fit h =
      let p : extra_frames most plane body * plane ≤ whole * plane = mul-le-mul_right plane (least (leb whole most) refl).1 in
      let q : whole * plane ≤ body - plane = div-mul-le_self (body - plane) plane in
      let e : (1 + extra_frames most plane body) * plane ≡ plane + extra_frames most plane body * plane = omega arith in
      omega arith

-- the frames by what the code counts
pub counted : (most size : ℕ) (p : ParsedHeader) (l : PlaneLayout) (n : ℕ) → l ≡ layout_of p.width p.height
    → n ≡ extra_frames most l.total_bytes (size - p.data_offset) → 1 + n ≡ frames_in (1 + most) size (parsed p)
counted most size p l n laid e =
    let m : most ≡ 1 + most - 1 = omega arith in
    ap (λ (k : ℕ). 1 + k)
    (e
    ∙ ap (λ (k : ℕ). extra_frames most k (size - p.data_offset)) (ap (λ (l : PlaneLayout). l.total_bytes) laid)
    ∙ ap (λ (k : ℕ). extra_frames k (plane_of (parsed p)) (size - p.data_offset)) m)
