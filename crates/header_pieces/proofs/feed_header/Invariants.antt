use Rattle.std.proofs.Common.{◌≡◌, ℕ, ◌-◌, ◌≤◌, List, length}
use Rattle.header.specs.Settings.{Settings}
use Rattle.header_pieces.specs.Internal.Head.{Reached}
use Rattle.header_pieces.proofs.HeaderLoop.{Going}
use Rattle.header_pieces.proofs.feed_header.Given as goal

abbrev pub invariant-loop-run : goal.invariant-loop-run
invariant-loop-run l =
    (l.run.taken ≤ length l.piece) × (length l.ext ≡ length l.initial.ext)
    × ((o : Settings) (bytes : List ℕ) → Reached o bytes l.reading.reader l.reading.at l.reading.kept → Going o bytes l.piece l.initial.ext l.reading.at l.reading.kept l.run.taken l.run.reader l.run.kept l.ext)
    × (4118 ≤ length l.initial.ext)

abbrev pub decreases-loop-run : goal.decreases-loop-run
decreases-loop-run l = length l.piece - l.run.taken
