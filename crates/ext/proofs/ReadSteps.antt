-- The span of fields as the loops of `read` come to it: how reading begins, and what each byte or pair does to it.
use Prim.Native.Nat.{ℕ}
use mathlib.Core.Path.{◌≡◌}
use mathlib.Core.List.{List}
use mathlib.Core.Bool.{Bool, true, false}
use lib.ListN.{drop, drop_of_length-le}
use Rattle.error.specs.Answer.{map}
use Rattle.laws.proofs.Lists.{drop_at}
use Rattle.ext.specs.Kinds.{span_of}
use Rattle.ext.specs.Read.{read_fields}
use Rattle.ext.specs.Internal.Bytewise.{octets, pairs_from, fields_from}
use Rattle.ext.proofs.OctetsBytewise.{octets-end, octets-over, octets-last, octets-more}
use Rattle.ext.proofs.PairsBytewise.{pairs_end, pairs-over, pairs-step}
use Rattle.ext.proofs.PairExtent.{step_after}
use Rattle.ext.proofs.Spans.{span_to, spans}

pub octets-begin : (s : List ℕ) (at : ℕ) → map (span_of at) (read_fields false true 0 s at) ≡ octets (drop at s) at at (span_to 0 at)
unfolding fields_from
octets-begin s at = spans false 0 s at

pub pairs-begin : (strict : Bool) (s : List ℕ) (at : ℕ)
    → map (span_of at) (read_fields strict true 3 s at) ≡ pairs_from (drop at s) strict at at 0 (span_to 3 at)
unfolding fields_from
pairs-begin strict s at = spans strict 3 s at

pub ruleset octet_steps = (octets-begin, octets-end, octets-over, octets-last, octets-more)

pub ruleset pair_steps = (pairs-begin, pairs_end, pairs-over, pairs-step, step_after)

-- what stands from an offset on
pub ruleset from_offset = (drop_at, drop_of_length-le)
