use Rattle.std.proofs.Common.{◌≡◌, ◌*◌, drop}
use Rattle.ext_write.specs.Internal.Steps.{checking, check_start, check_pairs}
use Rattle.ext_write.proofs.write.check_pairs.Given as goal

-- what is left to check gives the whole run
abbrev pub invariant-loop-i : goal.invariant-loop-i
invariant-loop-i o l =
    check_pairs l.strict l.text (o.P.PairList.lengths l.pairs) check_start
    ≡ check_pairs l.strict l.text (drop (2 * l.i) (o.P.PairList.lengths l.pairs)) (checking l.s)
