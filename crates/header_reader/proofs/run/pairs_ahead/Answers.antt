use Rattle.std.proofs.Common.{arith, rules}
use Rattle.header_reader.proofs.RunSteps.{pairs-none, pairs-more}
use Rattle.header_reader.proofs.run.pairs_ahead.Goals as goal

pub loop-run-init : goal.loop-run-init
loop-run-init c = record { few = search rules; inside = search rules; ahead = pairs-none _ _ }

pub loop-run-preserved : goal.loop-run-preserved
loop-run-preserved c =
    let l = c.loop-run.invariant in
    record { few = l.few; inside = l.inside; ahead = pairs-more _ _ _ _ _ l.ahead (omega arith) (omega arith) c.in-Some.ensures (omega arith) }
