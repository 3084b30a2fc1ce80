use Rattle.bench.proofs.Lists.{made-whole}
use borrow.Author.Rules.{rules}
use Rattle.bench.proofs.sessions.bench_make.Goals as goal

pub returns : goal.returns
returns c = search (rules, made-whole)
