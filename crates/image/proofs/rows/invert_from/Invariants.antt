use Rattle.image.specs.Rows.{invert}
use Rattle.image.proofs.FillLoop.{FilledTo}
use Rattle.image.proofs.rows.invert_from.Given as goal

abbrev pub invariant-loop-i : goal.invariant-loop-i
invariant-loop-i l = FilledTo (invert l.from) l.initial.to l.to l.i
