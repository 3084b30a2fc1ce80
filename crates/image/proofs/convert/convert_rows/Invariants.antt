use Rattle.image.proofs.ConvertLoop.{Converting}
use Rattle.image.proofs.convert.convert_rows.Given as goal

abbrev pub invariant-loop-y : goal.invariant-loop-y
invariant-loop-y l = Converting l.initial.plane l.layout.width l.layout.height l.stride l.row l.layout.last_byte_pad_mask l.plane l.y
