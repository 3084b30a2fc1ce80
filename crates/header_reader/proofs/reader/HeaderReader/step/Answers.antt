use Rattle.std.proofs.Common.{sym, ap, ◌∙◌, Ok}
use Rattle.header_reader.specs.Internal.Phase.{moved}
use Rattle.header_reader.proofs.ReaderPromises.{next-reachable}
use Rattle.header_reader.proofs.reader.HeaderReader.step.Goals as goal

pub invariant_of-result : goal.invariant_of-result
invariant_of-result c =
    record { reachable = next-reachable c.args.self c.args.byte _ (sym (ap moved (c.in_ok-phase.was ∙ ap Ok c.in-Continue.is)) ∙ c.step_phase.ensures) }
