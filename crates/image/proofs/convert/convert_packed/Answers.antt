use Rattle.std.proofs.Common.{length, ap, ◌∙◌}
use Rattle.image.specs.Internal.Parts.{clear_rows}
use Rattle.image.proofs.InvertedBytes.{invert-length}
use Rattle.image.proofs.PackedAsRows.{ends_rows}
use Rattle.image.proofs.convert.convert_packed.Goals as goal

pub returns : goal.returns
returns c =
    let l = c.args.layout in
    ends_rows l.width l.height _ _ (ap length c.invert.ensures ∙ invert-length c.args.plane.now ∙ c.requires) c.clear_ends.ensures
    ∙ ap (clear_rows l.width l.height) c.invert.ensures
