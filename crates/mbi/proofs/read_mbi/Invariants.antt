use Rattle.std.proofs.Common.{◌≡◌, ◌≤◌, length, drop, max}
use Rattle.mbi.specs.Read.{read_rest, read_mbi}
use Rattle.mbi.proofs.read_mbi.Given as goal

-- what is left to read gives the whole answer
abbrev pub invariant-loop-at : goal.invariant-loop-at
invariant-loop-at l =
    (l.at ≤ max l.offset (length l.bytes)) × (read_mbi l.strict l.bytes l.offset ≡ read_rest l.strict (drop l.at l.bytes) l.at l.value l.count)
