use Rattle.bench.proofs.Lists.{reads-list}
use borrow.Author.Rules.{rules}
use Rattle.bench.proofs.sessions.bench_read_list.Goals as goal

pub returns : goal.returns
returns c = search (rules, reads-list)
