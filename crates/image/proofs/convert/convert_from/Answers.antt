use mathlib.Core.Path.{◌≡◌, ap, sym, ◌∙◌}
use native.Mathlib.Omega.{arith}
use denote.Enum.Bare.{differs_true}
use Rattle.image.specs.Geometry.{row_bytes, plane_bytes}
use Rattle.image.specs.Internal.Parts.{clear_rows}
use Rattle.image.specs.Rows.{invert}
use Rattle.image.specs.contracts.PixelFormat.{the_type}
use lib.ListN.{length}
use Rattle.image.proofs.InvertedBytes.{invert-length}
use Rattle.image.proofs.PackedAsRows.{ends_rows, all-at-once}
use Rattle.image.proofs.ConvertLoop.{changed}
use Rattle.image.proofs.PlaneSizes.{total-is}
use Rattle.image.proofs.convert.convert_from.Goals as goal

pub returns-then-plane-layout : goal.returns-then-plane-layout
returns-then-plane-layout c =
    let a = c.args in
    let e = total-is c.new-layout.ensures in
    let i = c.invert_from.ensures in
    let n : length (invert a.plane.now) ≡ plane_bytes a.width a.height = invert-length a.plane.now ∙ c.if-plane-layout.true ∙ e in
    ends_rows a.width a.height _ _ (ap length i ∙ n) c.clear_ends.ensures
    ∙ ap (clear_rows a.width a.height) i
    ∙ all-at-once a.width a.height a.plane.now (omega (arith, c.if-plane-layout.true, e)) (c.if-plane-layout.true ∙ e)
    ∙ changed a.from a.to a.width a.height (row_bytes a.width) a.plane.now (differs_true the_type _ _ (sym c.ne.ensures ∙ c.if-ne.true))
