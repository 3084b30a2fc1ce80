use Rattle.bench.proofs.Lists.{rule-is}
use Rattle.bench.proofs.sessions.making.Goals as goal

pub returns : goal.returns
returns c =
    rule-is _ _ _ c.args.dithered
    c.new.ensures c.rule_of.ensures c.with_quantize.ensures
