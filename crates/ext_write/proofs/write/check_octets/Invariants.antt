use Rattle.std.proofs.Common.{ℕ, ◌<◌, get_or}
use Rattle.ext_write.proofs.write.check_octets.Given as goal

-- the octets so far have 7 bits
abbrev pub invariant-loop-i : goal.invariant-loop-i
invariant-loop-i l = (k : ℕ) → k < l.i → get_or l.text k 0 < 128
