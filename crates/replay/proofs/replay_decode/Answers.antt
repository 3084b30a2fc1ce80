use Rattle.replay.proofs.DecodeRun.{runs-calls}
use Rattle.replay.proofs.replay_decode.Goals as goal

pub returns : goal.returns
returns c = runs-calls _ _ _ _ _ _ _ _ _ _ _ c.run.ensures
