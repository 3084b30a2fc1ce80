use Rattle.rules.proofs.PlainRowWritten.{PlainTo}
use Rattle.rules.proofs.plain.plain_row.Given as goal

-- `rules::plain::plain_row` meets its contract: a byte more with each turn, and then the last.
-- Assumes nothing.
abbrev pub invariant-loop-k : goal.invariant-loop-k
invariant-loop-k l = PlainTo l.width l.gray l.initial.out l.out l.k
