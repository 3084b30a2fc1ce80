use mathlib.Core.Path.{◌≡◌}
use Rattle.rules.specs.Internal.Words.{bytes, samples_from}
use Rattle.rules.proofs.plain.few.Given as goal

-- `rules::plain::few` meets its contract: a byte more above with each sample.
-- Assumes nothing.
abbrev pub invariant-loop-i : goal.invariant-loop-i
invariant-loop-i l = l.samples ≡ bytes (samples_from l.gray 0) l.i
