use Rattle.std.proofs.Common.{arith}
use Rattle.ordered.proofs.OrderedNumbers.{table-other}
use Rattle.ordered.proofs.table.numbers.Goals as goal

pub returns-in_default : goal.returns-in_default
returns-in_default c = table-other c.args.side (omega arith) (omega arith)
