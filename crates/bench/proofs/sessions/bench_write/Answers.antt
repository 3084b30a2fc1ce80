use Rattle.bench.proofs.Lists.{written-whole}
use borrow.Author.Rules.{rules}
use Rattle.bench.proofs.sessions.bench_write.Goals as goal

pub returns : goal.returns
returns c = search (rules, written-whole)
