use Rattle.image.proofs.WireRows.{Wiring}
use Rattle.image.proofs.wire.wire_rows.Given as goal

abbrev pub invariant-loop-y : goal.invariant-loop-y
invariant-loop-y l = Wiring l.plane l.fn.layout.width l.fn.layout.height l.stride l.format l.initial.out l.row l.mask l.out l.y
