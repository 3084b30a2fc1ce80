use Prim.Native.Nat.{ℕ, ◌+◌, ◌-◌, ◌*◌}
use mathlib.Core.Path.{refl, ap, ◌∙◌}
use native.Mathlib.Omega.{arith}
use Rattle.rules.specs.Internal.Kernels.{threshold_bit}
use Rattle.rules.specs.Internal.Planes.{plane}
use Rattle.rules.proofs.ListPiece.{piece, piece-length}
use Rattle.rules.proofs.PlaneWritten.{RowsTo, row-there, dots-from, row_more, rows-all}
use Rattle.rules.proofs.plane.threshold_rows.Goals as goal

pub loop-y-preserved : goal.loop-y-preserved
loop-y-preserved c before f r₀ =
    let a = c.args in
    let w = a.layout.width in
    let gray = a.gray.now in
    let at = c.loop-y.at in
    let r = c.loop-y.invariant before f r₀ in
    let row = piece gray at w in
    row_more a.layout f r (threshold_bit a.bound row) c.last_row.new.out
    (λ k m. dots-from a.bound gray at (at + w - at) k (omega arith)) (omega arith)
    (c.last_row.ensures
    ∙ ap (λ (n : ℕ). plane n 1 (threshold_bit a.bound row)) (piece-length gray at w (row-there a.layout f r (omega arith))))

pub returns : goal.returns
returns c =
    let a = c.args in
    let l = a.layout in
    let y = c.front_rows-y.result in
    let r₀ : RowsTo a.bound l.width l.height a.gray.now a.out.now c.front_rows-y.new.out (y * l.width) (y * l.stride) y =
    record {
      within = c.front_rows-y.ensures.0;
      at_is = refl;
      to_is = ap (λ (n : ℕ). y * n) l.stride_is;
      out_is = c.front_rows-y.ensures.1;
    } in
    rows-all l c.requires.0 (c.loop-y.invariant a.out.now c.requires.0 r₀) (omega (arith, c.loop-y-test.false))
