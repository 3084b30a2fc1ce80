use Rattle.header_pieces.proofs.RunStored.{runs_on}
use Rattle.std.proofs.Common.{rules}
use Rattle.header_pieces.proofs.run_on.Goals as goal

pub returns : goal.returns
returns c = search (rules, runs_on)
