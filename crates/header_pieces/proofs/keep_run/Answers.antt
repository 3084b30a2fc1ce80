use Rattle.std.proofs.Common.{arith}
use Rattle.header_pieces.proofs.RunStored.{kept-first, kept_next, kept-last}
use Rattle.header_pieces.proofs.keep_run.Goals as goal

pub loop-i-init : goal.loop-i-init
loop-i-init c = kept-first (omega (arith, c.saturating_add-end.ensures, c.well_formed, c.if-ext-end.false))

pub loop-i-preserved : goal.loop-i-preserved
loop-i-preserved c = kept_next c.loop-i.invariant c.loop-i-test.true

pub shape_of-ext : goal.shape_of-ext
shape_of-ext c = c.loop-i.invariant.same

pub returns : goal.returns
returns c = kept-last c.loop-i.invariant (omega arith) (omega (arith, c.saturating_add-end.ensures, c.well_formed, c.if-ext-end.false))
