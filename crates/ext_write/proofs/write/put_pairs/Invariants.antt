use Rattle.std.proofs.Common.{◌≡◌, ◌*◌, drop}
use Rattle.ext_write.specs.Internal.Steps.{put_start, put_pairs}
use Rattle.ext_write.proofs.write.put_pairs.Given as goal

-- what is left to put gives the whole output
abbrev pub invariant-loop-i : goal.invariant-loop-i
invariant-loop-i o l =
    put_pairs l.text (o.P.PairList.lengths l.pairs) l.initial.out (put_start l.to)
    ≡ put_pairs l.text (drop (2 * l.i) (o.P.PairList.lengths l.pairs)) l.out l.s
