-- A plane that is written whole, or not at all.
-- Assumes nothing.
use Prim.Native.Nat.{ℕ, ◌*◌, ◌≤◌}
use mathlib.Core.Path.{◌≡◌, refl, sym, ap, ap₂, ◌∙◌, subst}
use mathlib.Core.Bool.{Bool, true, false, ◌&&◌}
use mathlib.Core.List.{List, ◌++◌}
use native.Mathlib.Nat.{mul-zero}
use native.Mathlib.Omega.{arith}
use borrow.Author.Tests.{le-leb}
use lib.IntN.{ℤ}
use lib.ListN.{length, take, drop, take-append-drop}
use Rattle.laws.proofs.Tests.{zero_one, if-true, if-false}
use Rattle.image.specs.Geometry.{row_bytes}
use Rattle.rules.specs.Bits.{upto}
use Rattle.rules.specs.Packed.{byte_at}
use Rattle.rules.specs.Internal.Planes.{plane, dither_bit}
use Rattle.diffusion.specs.Internal.Rows.{served, DitherPlane}
use Rattle.diffusion.specs.Internal.RowByRow.{RowsWritten, PlainRows}

module _ (w h : ℕ) (gray out : List ℕ) (work : List ℤ) where
  abbrev is : Bool
  is = served w h (length gray) (length out) (length work)

  pub refused : served w h (length gray) (length out) (length work) ≡ false → DitherPlane w h gray out work out work
  refused e = record { written = sym (if-false is _ _ e); beyond = refl; unserved = λ f. refl }

  module _ (there : w * h ≤ length gray) (room : h * row_bytes w ≤ length out) (kept : w ≤ length work) where
    is-served : served w h (length gray) (length out) (length work) ≡ true
    is-served =
        ap₂ ◌&&◌ (le-leb (w * h) (length gray) there)
        (ap₂ ◌&&◌ (le-leb (h * row_bytes w) (length out) room) (le-leb w (length work) kept))

    pub plane-served : (out' : List ℕ) (work' : List ℤ) → RowsWritten w h gray out h out' → drop w work' ≡ drop w work
        → DitherPlane w h gray out work out' work'
    plane-served out' work' r e =
        let t = is-served in
        record {
          written =
              sym (take-append-drop (h * row_bytes w) out')
              ∙ ap₂ ◌++◌ r.rows r.behind
              ∙ sym (if-true is _ _ t);
          beyond = e;
          unserved = λ f. zero_one (cc);
        }

    pub plane-dithered : (out' : List ℕ) (work' : List ℤ) → DitherPlane w h gray out work out' work'
        → out' ≡ plane w h (dither_bit w gray) ++ drop (h * row_bytes w) out
    plane-dithered out' work' d = d.written ∙ if-true is _ _ is-served

-- a plane without columns
pub no-columns : (w h : ℕ) (gray out : List ℕ) → w ≡ 0 → RowsWritten w h gray out h out
unfolding upto
no-columns w h gray out z =
    let e : h * row_bytes w ≡ 0 = ap (λ (n : ℕ). h * row_bytes n) z ∙ mul-zero h in
    record {
      rows = ap (λ (n : ℕ). take n out) e ∙ ap (λ (n : ℕ). upto n (byte_at w (dither_bit w gray))) (sym e);
      behind = refl;
      long = refl;
    }

-- plain rows, and then the others
module _ {w h : ℕ} {gray out : List ℕ} {y : ℕ} {out' : List ℕ} (p : PlainRows w h gray out y out') where
  pub rows-joined : (last : List ℕ) → RowsWritten w h gray out' h last → RowsWritten w h gray out h last
  rows-joined last r =
      let a = p.written in
      record { rows = r.rows; behind = r.behind ∙ a.behind; long = r.long ∙ a.long }

  pub rows-plain : h ≤ y → RowsWritten w h gray out h out'
  rows-plain l =
      let m = p.most in
      let e : y ≡ h = omega arith in
      subst (λ (n : ℕ). RowsWritten w h gray out n out') e p.written
