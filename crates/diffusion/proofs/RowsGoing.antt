-- The loops over the rows of a plane.
-- Assumes nothing.
use Prim.Native.Nat.{ℕ, ◌+◌, ◌-◌, ◌≤◌, ◌<◌}
use mathlib.Core.Path.{◌≡◌, refl, sym, ap, ◌∙◌, subst}
use mathlib.Core.Bool.{Bool, true, false}
use mathlib.Core.List.{List, []}
use native.Mathlib.Omega.{arith}
use borrow.Rule.Slice.PartMut.{mid_of, put_mid, mid_len}
use lib.IntN.{ℤ}
use lib.ListN.{length, get_or, drop}
use Rattle.image.specs.Geometry.{row_bytes}
use Rattle.rules.specs.Internal.Kernels.{threshold_bit}
use Rattle.rules.specs.Internal.Planes.{PlainRow}
use Rattle.rules.proofs.ListPiece.{piece, piece-length}
use Rattle.rules.proofs.PlainRowWritten.{row_plain, row_written}
use Rattle.diffusion.specs.Internal.Sums.{none, Sums}
use Rattle.diffusion.specs.Internal.RowByRow.{handed_to, RowNext, PlaneLent, RowsWritten, PlainRows}
use Rattle.diffusion.proofs.PlaneRows.{row-alone}
use Rattle.diffusion.proofs.RowHanded.{next-plain}
use Rattle.diffusion.proofs.RowsLoop.{first-sums, rows-unwritten, rows_stay, RowsAt, rows-moved, row-lent, row_fits, row-bytes, row_next}

-- ---- plain rows from the top

pub plain-begun : (w h : ℕ) (gray out : List ℕ) → RowsAt w h gray out (λ x. none) out 0 0 0
plain-begun w h gray out =
    record { most = omega arith; at_is = omega arith; to_is = omega arith; written = rows-unwritten w h gray out; given = first-sums w gray }

module _ {w h : ℕ} {gray out₀ out : List ℕ} {at to y : ℕ} (lent : PlaneLent w h (length gray) (length out₀))
    (i : RowsAt w h gray out₀ (λ x. none) out at to y) (l : y < h) (r : Bool) (new : List ℕ) where
  abbrev row : List ℕ
  row = piece gray at w

  abbrev room : List ℕ
  room = mid_of to (to + row_bytes w - to) out

  row_is : length row ≡ w
  row_is = piece-length gray at w (row-lent lent i l)

  room-is : length room ≡ row_bytes w
  room-is = let a = row_fits lent i l in let b = mid_len to (to + row_bytes w) out (omega arith) in omega arith

  pub plain_more : ((n : ℕ) → get_or gray n 0 < 256) → r ≡ true → PlainRow w (piece gray at w) (mid_of to (to + row_bytes w - to) out) r new
      → RowsAt w h gray out₀ (λ x. none) (put_mid to (to + row_bytes w - to) out new) (at + w) (to + row_bytes w) (y + 1)
  plain_more bytes e p =
      let q = subst (λ (n : ℕ). PlainRow n row room r new) (sym row_is) p in
      let a : length room ≡ row_bytes (length row) = room-is ∙ ap row_bytes (sym row_is) in
      let b = row-alone (length row) (threshold_bit 128 row) room new a (row_written q e) in
      row_next lent i l bytes true [] refl true new [] (next-plain row [] new (row-bytes lent i l bytes) [] (row_plain q e) b refl)

  pub plain_end : length new ≡ length (mid_of to (to + row_bytes w - to) out)
      → PlainRows w h gray out₀ y (put_mid to (to + row_bytes w - to) out new)
  plain_end e =
      record { most = i.most; level = i.given.are; written = rows_stay lent i.written l to new i.to_is (e ∙ room-is) }

-- ---- all rows

pub record RowsGoing (w h : ℕ) (gray out₀ : List ℕ) (work₀ work : List ℤ) (out : List ℕ) (level : Bool) (at to y : ℕ) : Type 0 where
  pub here : RowsAt w h gray out₀ (handed_to level work) out at to y
  pub sums : level ≡ false → Sums w work
  pub kept : length work ≡ length work₀
  pub beyond : drop w work ≡ drop w work₀

module _ {w h : ℕ} {gray out₀ : List ℕ} {work₀ work : List ℤ} {out : List ℕ} {level : Bool} {at to y : ℕ}
    (lent : PlaneLent w h (length gray) (length out₀)) (i : RowsGoing w h gray out₀ work₀ work out level at to y) (l : y < h) where
  pub going_next : ((n : ℕ) → get_or gray n 0 < 256) → (r : Bool) (new : List ℕ) (work' : List ℤ) → length work' ≡ length work
      → RowNext level (piece gray at w) work r new work'
      → RowsGoing w h gray out₀ work₀ work' (put_mid to (to + row_bytes w - to) out new) r (at + w) (to + row_bytes w) (y + 1)
  going_next bytes r new work' k x =
      let n : length (piece gray at w) ≡ w = piece-length gray at w (row-lent lent i.here l) in
      record {
        here = row_next lent i.here l bytes level work refl r new work' x;
        sums = λ e. subst (λ (j : ℕ). Sums j work') n (x.sums e);
        kept = k ∙ i.kept;
        beyond = subst (λ (j : ℕ). drop j work' ≡ drop j work) n x.beyond ∙ i.beyond;
      }

-- the same place, said otherwise
pub going-moved : {w h : ℕ} {gray out₀ : List ℕ} {work₀ work : List ℤ} {out : List ℕ} {level : Bool} {at to y : ℕ} (at' to' : ℕ)
    → RowsGoing w h gray out₀ work₀ work out level at to y → at ≡ at' → to ≡ to' → RowsGoing w h gray out₀ work₀ work out level at' to' y
going-moved at' to' i e f = record { here = rows-moved at' to' i.here e f; sums = i.sums; kept = i.kept; beyond = i.beyond }

pub going_end : {w h : ℕ} {gray out₀ : List ℕ} {work₀ work : List ℤ} {out : List ℕ} {level : Bool} {at to y : ℕ}
    → RowsGoing w h gray out₀ work₀ work out level at to y → h ≤ y → RowsWritten w h gray out₀ h out
going_end {w} {h} {gray} {out₀} {work₀} {work} {out} {level} {at} {to} {y} i l =
    let m = i.here.most in
    let e : y ≡ h = omega arith in
    subst (λ (n : ℕ). RowsWritten w h gray out₀ n out) e i.here.written
