use Prim.Native.Nat.{ℕ, ◌≤◌}
use mathlib.Core.Path.{◌≡◌, ap, sym, ◌∙◌}
use mathlib.Core.List.{List, ◌++◌}
use native.Mathlib.Nat.{mul_comm}
use native.Mathlib.Omega.{arith}
use lib.ListN.{length, take, drop}
use lib.Seq.{length-take-le}
use Rattle.error.specs.Answer.{gives}
use Rattle.error.specs.Emits.{Emits}
use Rattle.laws.proofs.Writers.{emits_none, emits-all}
use Rattle.image.specs.Geometry.{row_bytes, plane_bytes}
use Rattle.image.specs.Internal.Parts.{clear_rows}
use Rattle.image.specs.Rows.{to_native, wire_bits}
use Rattle.image.specs.declared.PlaneLayout.{PlaneLayout}
use Rattle.image.proofs.PackedAsRows.{wires-at-once}
use Rattle.image.proofs.PlaneSizes.{stride-is, total-is}
use Rattle.image.proofs.WireRows.{wire-length}
use Rattle.image.proofs.wire.wire_bits_at.Goals as goal
use Rattle.image.proofs.wire.wire_bits_at.Goals.{After-new-layout}

abbrev whole : After-new-layout → List ℕ
whole c = let a = c.args in wire_bits a.format a.width a.height a.stride a.plane.now

-- the layout has as many bytes as the rows
long : (c : After-new-layout) → length (whole c) ≡ plane_bytes c.args.width c.args.height
long c =
    let a = c.args in
    wire-length a.format a.width a.stride a.plane.now a.height ∙ mul_comm a.height (row_bytes a.width)

done : (c : After-new-layout) {new : List ℕ} → let n = c.new-layout.result.total_bytes in let old = c.args.out.now in
    n ≤ length old → new ≡ whole c ++ drop n old → Emits (gives (whole c)) (gives n) old new
done c h e =
    let s : c.new-layout.result.total_bytes ≡ length (whole c) = total-is c.new-layout.ensures ∙ sym (long c) in
    emits-all (whole c) c.args.out.now _ _ (omega arith) s (e ∙ ap (λ n. whole c ++ drop n c.args.out.now) s)

pub returns-then-out-total : goal.returns-then-out-total
returns-then-out-total c =
    rw c.new.ensures
    (emits_none (whole (goal.at.returns-then-out-total c).After-new-layout) c.args.out.now (omega (arith, long (goal.at.returns-then-out-total c).After-new-layout, total-is c.new-layout.ensures, c.if-out-total.true)))

pub slice_bounds-wire_packed-end : goal.slice_bounds-wire_packed-end
slice_bounds-wire_packed-end c = sym (length-take-le _ _ c.if-total-plane.true)

pub slice_bounds-wire_packed-end-then-total-plane-2 : goal.slice_bounds-wire_packed-end-then-total-plane-2
slice_bounds-wire_packed-end-then-total-plane-2 c = sym (length-take-le _ _ c.if-out-total.false)

pub wire_packed-requires : goal.wire_packed-requires
wire_packed-requires c =
    let e = c.new-layout.result.total_is in
    record {
      plane_len = length-take-le _ _ c.if-total-plane.true ∙ e;
      out_len = length-take-le _ _ c.if-out-total.false ∙ e;
    }

pub returns-then-total-plane : goal.returns-then-total-plane
returns-then-total-plane c =
    let a = c.args in
    let s : a.stride ≡ row_bytes a.width = c.if-stride-layout.true ∙ stride-is c.new-layout.ensures in
    done (goal.at.returns-then-total-plane c).After-new-layout c.if-out-total.false
    (ap (λ l. l ++ drop c.new-layout.result.total_bytes a.out.now)
    (c.wire_packed.ensures
    ∙ ap (λ (l : PlaneLayout). clear_rows l.width l.height (to_native a.format (take l.total_bytes a.plane.now)))
    c.new-layout.ensures
    ∙ wires-at-once a.width a.height a.plane.now (omega (arith, total-is c.new-layout.ensures, c.if-total-plane.true)) a.format
    ∙ ap (λ n. wire_bits a.format a.width a.height n a.plane.now) (sym s)))

pub wire_rows-requires : goal.wire_rows-requires
wire_rows-requires c = omega (arith, c.new-layout.result.total_is, c.if-out-total.false)

pub returns-else-stride-layout : goal.returns-else-stride-layout
returns-else-stride-layout c =
    let a = c.args in
    done (goal.at.returns-else-stride-layout c).After-new-layout c.if-out-total.false
    (c.wire_rows.ensures
    ∙ ap (λ (l : PlaneLayout). wire_bits a.format l.width l.height a.stride a.plane.now ++ drop
    (plane_bytes l.width l.height) a.out.now) c.new-layout.ensures
    ∙ ap (λ (m : ℕ). whole (goal.at.returns-else-stride-layout c).After-new-layout ++ drop m a.out.now) (sym (total-is c.new-layout.ensures)))
