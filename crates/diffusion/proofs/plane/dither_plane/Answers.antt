use Prim.Native.Nat.{ℕ, ◌*◌, ◌≤◌, ◌<◌}
use mathlib.Core.Path.{◌≡◌, refl, sym, ap, ◌∙◌, subst}
use mathlib.Core.List.{List}
use native.Mathlib.Nat.{mul_comm}
use Rattle.image.specs.Geometry.{row_bytes}
use Rattle.image.specs.Layout.{layout_of}
use Rattle.image.specs.declared.PlaneLayout.{PlaneLayout}
use lib.IntN.{ℤ}
use lib.ListN.{length, drop}
use Rattle.diffusion.specs.Internal.Rows.{served, DitherPlane}
use Rattle.diffusion.specs.Internal.RowByRow.{RowsWritten}
use Rattle.diffusion.proofs.PlaneServed.{refused, plane-served, no-columns}
use Rattle.diffusion.proofs.PlaneServed.{rows-joined, rows-plain}
use borrow.Author.Tests.{le-leb, lt-leb}
use mathlib.Core.Bool.{false}
use Rattle.diffusion.proofs.plane.dither_plane.Goals as goal
use Rattle.diffusion.proofs.plane.dither_plane.Goals.{Else-work-columns}
use Rattle.diffusion.proofs.plane.dither_plane.Goals.{then-gray-columns-via-then-gray-columns, then-gray-columns-via-else-gray-columns+then-out-layout}
use Rattle.diffusion.proofs.plane.dither_plane.Goals.{then-gray-columns-via-else-gray-columns+else-out-layout+then-work-columns}
use Rattle.diffusion.proofs.plane.dither_plane.Goals.{then-gray-columns-via-else-gray-columns+else-out-layout+else-work-columns+then-columns-eq0}

-- a plane's bytes are those of its rows
total : {w h : ℕ} (n : PlaneLayout) → n ≡ layout_of w h → n.total_bytes ≡ h * row_bytes w
total {w} {h} n e = ap (λ (l : PlaneLayout). l.total_bytes) e ∙ mul_comm (row_bytes w) h

-- the plane is served
all-there : (e : Else-work-columns) (out' : List ℕ) (work' : List ℤ)
    → let a = e.args in
    RowsWritten a.width a.height a.gray.now a.out.now a.height out'
    → drop a.width work' ≡ drop a.width a.work.now
    → DitherPlane a.width a.height a.gray.now a.out.now a.work.now out' work'
all-there e out' work' r b =
    let a = e.args in
    plane-served a.width a.height a.gray.now a.out.now a.work.now e.if-gray-columns.false
    (subst (λ (k : ℕ). k ≤ length a.out.now) (total _ e.new-layout.ensures) e.if-out-layout.false)
    e.if-work-columns.false out' work' r b

-- by its layout
laid-out : (e : Else-work-columns) (out' : List ℕ) (work' : List ℤ)
    → let a = e.args in
    let n = e.new-layout.result in
    RowsWritten n.width n.height a.gray.now a.out.now n.height out'
    → drop n.width work' ≡ drop n.width a.work.now
    → DitherPlane a.width a.height a.gray.now a.out.now a.work.now out' work'
laid-out e out' work' r b =
    let a = e.args in
    let i = e.new-layout.ensures in
    all-there e out' work' (subst (λ (n : PlaneLayout). RowsWritten n.width n.height a.gray.now a.out.now n.height out') i r)
    (subst (λ (n : PlaneLayout). drop n.width work' ≡ drop n.width a.work.now) i b)

-- planes of so many columns
columns : (e : Else-work-columns) (n : ℕ) → let a = e.args in
    a.width ≡ n → (out' : List ℕ) → RowsWritten n a.height a.gray.now a.out.now a.height out'
    → RowsWritten a.width a.height a.gray.now a.out.now a.height out'
columns e n is out' r =
    let a = e.args in
    subst (λ (w : ℕ). RowsWritten w a.height a.gray.now a.out.now a.height out') (sym is) r

pub returns-then-gray-columns : goal.returns-then-gray-columns
returns-then-gray-columns c =
    let a = c.args in
    let h = a.height in
    let none : served a.width h (length a.gray.now) (length a.out.now) (length a.work.now) ≡ false → DitherPlane a.width h a.gray.now a.out.now a.work.now a.out.now a.work.now =
    refused a.width h a.gray.now a.out.now a.work.now in
    elim c.then-gray-columns.branch [
      | then-gray-columns-via-then-gray-columns w ↦ none (rw (lt-leb _ _ w.if-gray-columns.true))
      | then-gray-columns-via-else-gray-columns+then-out-layout w ↦
          none (rw (
            le-leb _ _ w.if-gray-columns.false,
            lt-leb _ _ (subst (λ (k : ℕ). length a.out.now < k) (total _ c.new-layout.ensures) w.if-out-layout.true),
          ))
      | then-gray-columns-via-else-gray-columns+else-out-layout+then-work-columns w ↦
          none (rw (
            le-leb _ _ w.if-gray-columns.false,
            le-leb _ _ (subst (λ (k : ℕ). k ≤ length a.out.now) (total _ c.new-layout.ensures) w.if-out-layout.false),
            lt-leb _ _ w.if-work-columns.true,
          ))
      | then-gray-columns-via-else-gray-columns+else-out-layout+else-work-columns+then-columns-eq0 w ↦
          plane-served a.width h a.gray.now a.out.now a.work.now w.if-gray-columns.false
          (subst (λ (k : ℕ). k ≤ length a.out.now) (total _ c.new-layout.ensures) w.if-out-layout.false) w.if-work-columns.false _ _
          (no-columns a.width h a.gray.now a.out.now w.if-columns-eq0.true) refl
    ]

pub returns-then-first-rows : goal.returns-then-first-rows
returns-then-first-rows c =
    laid-out (goal.at.returns-then-first-rows c).Else-work-columns _ _
    (rows-joined c.plain_rows-first.ensures _ c.rows_from.ensures.rows_written) c.rows_from.ensures.work_unchanged

pub returns-else-first-rows : goal.returns-else-first-rows
returns-else-first-rows c = laid-out (goal.at.returns-else-first-rows c).Else-work-columns _ _ (rows-plain c.plain_rows-first.ensures
    (subst (λ (n : PlaneLayout). n.height ≤ c.plain_rows-first.result) (sym c.new-layout.ensures) c.if-first-rows.false)) refl
