use Rattle.bench.proofs.Lists.{asked_is}
use Rattle.bench.proofs.sessions.reading.Goals as goal

pub returns : goal.returns
returns c =
    asked_is _ _ _ c.args.inverted
    c.new.ensures c.format_of.ensures c.with_format.ensures
