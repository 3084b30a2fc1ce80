use Rattle.std.proofs.Common.{◌-◌}
use Rattle.ext.proofs.PairsWalk.{PairsLeft, Answers}
use Rattle.ext.proofs.find.lookup.Given as goal

abbrev pub invariant-loop-pair : goal.invariant-loop-pair
invariant-loop-pair l =
    PairsLeft l.bytes l.identifier (Answers l.fn.fix_header l.bytes l.offset l.identifier) l.at (l._pair-end - l._pair)
