use mathlib.Core.Path.{refl}
use Rattle.header_reader.proofs.StepReachable.{reachable-start}
use Rattle.header_reader.proofs.reader.HeaderReader.new.Goals as goal

pub returns : goal.returns
returns c = record { mode_is = refl; phase_is = rw c.start.ensures; reachable = reachable-start }
