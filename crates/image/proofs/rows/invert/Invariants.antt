use Rattle.image.specs.Rows.{invert}
use Rattle.image.proofs.FillLoop.{FilledTo}
use Rattle.image.proofs.rows.invert.Given as goal

abbrev pub invariant-loop-b : goal.invariant-loop-b
invariant-loop-b l = FilledTo (invert l.initial.row) l.initial.row l.row l.b-index
