use Rattle.std.proofs.Common.{◌≡◌, length, sym, ap, ◌∙◌}
use Rattle.image.specs.Internal.Parts.{clear_rows}
use Rattle.image.specs.Rows.{to_native}
use Rattle.image.proofs.PackedAsRows.{ends_rows}
use Rattle.image.proofs.WireRows.{native-length}
use Rattle.image.proofs.wire.wire_packed.Goals as goal
use Rattle.image.proofs.wire.wire_packed.Goals.{in-MonoBlack, in-MonoWhite}

pub returns : goal.returns
returns c =
    let l = c.args.layout in
    let plane = c.args.plane.now in
    let e : c.match-format.out ≡ to_native c.args.format plane = elim c.match-format.branch [
      | in-MonoBlack w ↦ w.out-is ∙ w.copy_at.ensures ∙ ap (λ f. to_native f plane) (sym w.in-MonoBlack.is)
      | in-MonoWhite w ↦ w.out-is ∙ w.invert_from.ensures ∙ ap (λ f. to_native f plane) (sym w.in-MonoWhite.is)
    ] in
    ends_rows l.width l.height _ _ (ap length e ∙ native-length c.args.format plane ∙ c.requires.plane_len) c.clear_ends.ensures
    ∙ ap (clear_rows l.width l.height) e
