use Rattle.bench.proofs.Lists.{makes-list}
use native.Mathlib.Omega.{arith}
use Rattle.bench.proofs.sessions.bench_make_list.Goals as goal

pub returns : goal.returns
returns c =
    makes-list _ _ _ _ _ _ _ _ _ _ _ _ _ _ _ _ _ _ c.ranges.width.fits c.ranges.height.fits (omega arith)
    c.making.ensures c.«open».ensures c.replay_encode.ensures
