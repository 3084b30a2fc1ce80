use Rattle.header_reader.proofs.RunSteps.{run-reachable, unmoved}
use Rattle.header_reader.proofs.reader.HeaderReader.run.Goals as goal

pub invariant_of-result : goal.invariant_of-result
invariant_of-result c = record { reachable = run-reachable c.args.self c.args.piece.now c.in-InFields.is c.run_fields-run.ensures }

pub returns-in_default : goal.returns-in_default
returns-in_default c = rw c.stay.ensures (unmoved _ _)
