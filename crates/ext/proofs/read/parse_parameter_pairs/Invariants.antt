use Prim.Native.Nat.{◌-◌, ◌≤◌}
use mathlib.Core.Path.{◌≡◌}
use mathlib.Core.Bool.{true}
use lib.ListN.{length, drop}
use Rattle.error.specs.Answer.{map}
use Rattle.ext.specs.Kinds.{span_of}
use Rattle.ext.specs.Read.{read_fields}
use Rattle.ext.specs.Internal.Bytewise.{pairs_from}
use Rattle.ext.proofs.Spans.{span_to}
use Rattle.ext.proofs.read.parse_parameter_pairs.Given as goal

abbrev pub invariant-loop-at : goal.invariant-loop-at
invariant-loop-at l =
    (l.offset ≤ l.at) × (l.pairs ≤ l.at)
    × (map (span_of l.offset) (read_fields l.strict true 3 l.bytes l.offset) ≡ pairs_from (drop l.at l.bytes) l.strict l.offset l.at l.pairs (span_to 3 l.offset))

abbrev pub decreases-loop-at : goal.decreases-loop-at
decreases-loop-at l = length l.bytes - l.at
