use Prim.Native.Nat.{ℕ}
use mathlib.Core.Path.{◌≡◌, ap, sym, ◌∙◌}
use mathlib.Core.List.{List, ◌++◌}
use native.Mathlib.Omega.{arith}
use borrow.Author.Rules.{rules}
use denote.Enum.Bare.{same_true, same_false}
use lib.ListN.{length, take, drop}
use lib.Seq.{length-take-le}
use Rattle.image.specs.Internal.Parts.{clear_rows}
use Rattle.image.specs.Rows.{invert, convert_rows, convert_format}
use Rattle.image.specs.contracts.PixelFormat.{the_type}
use Rattle.image.specs.declared.PlaneLayout.{PlaneLayout}
use Rattle.image.proofs.PackedAsRows.{converts-at-once}
use Rattle.image.proofs.ConvertLoop.{unchanged, changed}
use Rattle.image.proofs.PlaneSizes.{stride-is, total-is}
use Rattle.image.proofs.convert.convert_format.Goals as goal
use Rattle.image.proofs.convert.convert_format.Goals.{After-new-layout, Then-layout-plane}

-- the formats differ
other : (c : After-new-layout)
    → let a = c.args in
    convert_rows a.width a.stride a.height 0 a.plane.now ≡ convert_format a.from a.to a.width a.height a.stride
    a.plane.now
other c =
    let a = c.args in
    changed a.from a.to a.width a.height a.stride a.plane.now (same_false the_type _ _ (sym c.eq.ensures ∙ c.if-eq.false))

-- the rows are all there
front_long : (c : Then-layout-plane)
    → length (take c.new-layout.result.total_bytes
    c.args.plane.now) ≡ c.new-layout.result.total_bytes
front_long c = length-take-le _ _ c.if-layout-plane.true

pub returns-then-eq : goal.returns-then-eq
returns-then-eq c =
    let a = c.args in
    unchanged a.from a.to a.width a.height a.stride a.plane.now (same_true the_type (search rules) _ _ (sym c.eq.ensures ∙ c.if-eq.true))

pub convert_packed-requires : goal.convert_packed-requires
convert_packed-requires c = front_long (goal.at.convert_packed-requires c).Then-layout-plane ∙ c.new-layout.result.total_is

pub returns-then-layout-plane : goal.returns-then-layout-plane
returns-then-layout-plane c =
    let a = c.args in
    let p = a.plane.now in
    ap (λ (r : List ℕ). r ++ drop c.new-layout.result.total_bytes p) c.convert_packed.ensures
    ∙ ap (λ (l : PlaneLayout). clear_rows l.width l.height (invert (take l.total_bytes p)) ++ drop l.total_bytes p)
    c.new-layout.ensures
    ∙ converts-at-once a.width a.height p (omega (arith, total-is c.new-layout.ensures, c.if-layout-plane.true))
    ∙ ap (λ (s : ℕ). convert_rows a.width s a.height 0 p) (sym (stride-is c.new-layout.ensures) ∙ sym c.if-stride-layout.true)
    ∙ other (goal.at.returns-then-layout-plane c).After-new-layout

pub returns-else-stride-layout : goal.returns-else-stride-layout
returns-else-stride-layout c =
    let a = c.args in
    c.convert_rows.ensures
    ∙ ap (λ (l : PlaneLayout). convert_rows l.width a.stride l.height 0 a.plane.now) c.new-layout.ensures
    ∙ other (goal.at.returns-else-stride-layout c).After-new-layout
