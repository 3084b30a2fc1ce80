use denote.Enum.Bare.{sameb}
use mathlib.Core.Bool.{false, not}
use mathlib.Core.Path.{◌≡◌, refl, sym, ◌∙◌}
use native.Mathlib.Omega.{arith}
use Rattle.image.proofs.PlaneSizes.{stride-is, mask_is, total-some}
use Rattle.api.specs.Internal.Parts.{Rows}
use Rattle.api.specs.contracts.Sniffed.{the_type}
use Rattle.api.specs.declared.Sniffed.{Sniffed}
use Rattle.api.specs.declared.Sniffed.TheVariants.{Neither, Exact, Truncated}
use Rattle.api.proofs.RowsClear.{all}
use Rattle.api.proofs.BodySniffed.{no_row, small-plane, no_length, dirty, clean}
use Rattle.api.proofs.sniffing.sniff_body.Goals as goal
use Rattle.api.proofs.sniffing.sniff_body.Goals.{After-new-layout, else-ne-via-then-ne+then-width-ne0+else-not-are_clear, else-ne-via-then-ne+else-width-ne0, else-ne-via-else-ne}

is_neither : (t : Sniffed) → false ≡ not (sameb the_type t Neither) → t ≡ Neither
is_neither Neither e = refl
is_neither Exact e = cc
is_neither Truncated e = cc

rows : (n : After-new-layout) → Rows n.args.width n.new-layout.result.stride n.new-layout.result.last_byte_pad_mask
rows n = record { row_is = stride-is n.new-layout.ensures; mask_is = mask_is n.new-layout.ensures }

pub returns-then-size-row : goal.returns-then-size-row
returns-then-size-row c =
    let a = c.args in
    sym (no_row a.width a.height a.body.now c.new-layout.result c.new-layout.ensures c.if-size-row.true)

pub sniff_length-told-requires : goal.sniff_length-told-requires
sniff_length-told-requires c =
    let a = c.args in (
      total-some c.new-layout.ensures c.requires.wide c.requires.high,
      small-plane a.width a.height a.body.now c.new-layout.result c.new-layout.ensures c.requires.narrow c.requires.low,
    )

pub are_clear-requires : goal.are_clear-requires
are_clear-requires c = (omega (arith, stride-is c.new-layout.ensures, c.requires.wide), omega (arith, c.if-size-row.false))

pub returns-then-not-are_clear : goal.returns-then-not-are_clear
returns-then-not-are_clear c =
    let a = c.args in
    sym (dirty a.width a.height a.body.now c.new-layout.result c.new-layout.ensures c.if-size-row.false
    (sym (c.are_clear.ensures a.width (rows (goal.at.returns-then-not-are_clear c).After-new-layout)) ∙ c.if-not-are_clear.true))

pub returns : goal.returns
returns c =
    let a = c.args in
    let l = c.new-layout in
    elim c.else-ne.branch [
      | else-ne-via-then-ne+then-width-ne0+else-not-are_clear w ↦ c.sniff_length-told.ensures
          ∙ sym (clean a.width a.height a.body.now l.result l.ensures c.if-size-row.false
          (sym (w.are_clear.ensures a.width (rows (goal.at.returns c).After-new-layout)) ∙ w.if-not-are_clear.false))
      | else-ne-via-then-ne+else-width-ne0 w ↦ c.sniff_length-told.ensures
          ∙ sym (clean a.width a.height a.body.now l.result l.ensures c.if-size-row.false
          (sym (all a.width a.body.now w.if-width-ne0.false _)))
      | else-ne-via-else-ne w ↦ let e = is_neither c.sniff_length-told.result w.if-ne.ensures in
          e ∙ sym (no_length a.width a.height a.body.now l.result l.ensures (sym c.sniff_length-told.ensures ∙ e))
    ]
