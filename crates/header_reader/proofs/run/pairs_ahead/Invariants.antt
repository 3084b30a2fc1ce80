use Rattle.std.proofs.Common.{◌-◌, ◌≤◌, length}
use Rattle.header_reader.specs.Internal.Run.{PairsAhead}
use Rattle.header_reader.proofs.run.pairs_ahead.Given as goal

abbrev pub invariant-loop-run : goal.invariant-loop-run
invariant-loop-run l = record { few : l.end ≤ l.most; inside : l.end ≤ length l.piece; ahead : PairsAhead l.most l.piece l.run }

abbrev pub decreases-loop-run : goal.decreases-loop-run
decreases-loop-run l = l.end - l.run.taken
