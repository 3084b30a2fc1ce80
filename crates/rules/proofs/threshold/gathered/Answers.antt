use Rattle.rules.proofs.WordGathered.{gather-is}
use Rattle.rules.proofs.threshold.gathered.Goals as goal

pub returns : goal.returns
returns c f h e = rw e (gather-is f h)
