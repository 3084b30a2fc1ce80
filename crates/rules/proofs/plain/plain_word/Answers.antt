use Rattle.rules.proofs.WordPlain.{tells-plain}
use Rattle.rules.proofs.plain.plain_word.Goals as goal

pub returns : goal.returns
returns c = tells-plain c.args.samples
