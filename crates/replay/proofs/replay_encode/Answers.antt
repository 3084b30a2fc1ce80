use Rattle.replay.proofs.EncodeRun.{runs-calls}
use Rattle.replay.proofs.replay_encode.Goals as goal

pub returns : goal.returns
returns c = runs-calls _ _ _ _ _ _ _ _ _ _ _ c.run.ensures
