use native.Mathlib.Omega.{arith}
use Rattle.header_reader.specs.declared.phase.FieldsPhase.{FieldsPhase}
use Rattle.header_reader.proofs.RunSteps.{stayed, pairs-run}
use Rattle.header_reader.proofs.run.run_pairs.Goals as goal

pub returns-then-chain : goal.returns-then-chain
returns-then-chain c = λ o off. stayed {p = FieldsPhase.AtPair _} c.stay.ensures o

pub returns : goal.returns
returns c = pairs-run c.pairs_ahead-run.ensures (omega arith)
