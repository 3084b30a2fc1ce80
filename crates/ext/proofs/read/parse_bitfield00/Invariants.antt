use Prim.Native.Nat.{◌≤◌}
use Rattle.std.proofs.Common.{max}
use mathlib.Core.Path.{◌≡◌}
use mathlib.Core.Bool.{true, false}
use lib.ListN.{length, drop}
use Rattle.error.specs.Answer.{map}
use Rattle.ext.specs.Kinds.{span_of}
use Rattle.ext.specs.Read.{read_fields}
use Rattle.ext.specs.Internal.Bytewise.{octets}
use Rattle.ext.proofs.Spans.{span_to}
use Rattle.ext.proofs.read.parse_bitfield00.Given as goal

abbrev pub invariant-loop-at : goal.invariant-loop-at
invariant-loop-at l =
    (l.at ≤ max l.offset (length l.bytes))
    × (map (span_of l.offset) (read_fields false true 0 l.bytes l.offset) ≡ octets (drop l.at l.bytes) l.offset l.at (span_to 0 l.offset))
