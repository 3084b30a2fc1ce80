use mathlib.Core.Path.{◌∙◌}
use native.Mathlib.Omega.{arith}
use Rattle.mbi.proofs.Step.{word-is}
use Rattle.header_reader.proofs.phase.PartialInteger.read.Goals as goal

pub returns : goal.returns
returns c =
    let i = c.args.self in
    c.mbi_step.ensures.does ∙ word-is c.args.mode.shortest i.at i.value i.count c.args.byte (omega arith)
