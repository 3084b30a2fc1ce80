use Prim.Native.Nat.{ℕ, ◌+◌, ◌*◌, ◌<◌}
use native.Mathlib.Omega.{arith}
use lib.ListN.{length, get_or}
use Rattle.diffusion.proofs.PairsLoop.{pairs-begun, pairs_small, pairs_next, pairs_end}
use Rattle.diffusion.proofs.pairs.dither_pairs.Goals as goal
use Rattle.diffusion.proofs.pairs.dither_pairs.Goals.{In-loop-y}

bytes : (c : In-loop-y) (n : ℕ) → get_or c.args.gray.now n 0 < 256
bytes c n = let f = c.type_inv.gray n in omega arith

-- the row's samples are there
there : (c : In-loop-y) → 2 * c.loop-y.y + 1 < length c.args.gray.now
there c = omega (arith, c.requires.there, c.loop-y-test.true)

pub loop-y-init : goal.loop-y-init
loop-y-init c =
    let a = c.args in
    pairs-begun a.height a.gray.now a.out.now

pub dither_pair-p-requires : goal.dither_pair-p-requires
dither_pair-p-requires c = pairs_small c.loop-y.invariant

pub loop-y-preserved : goal.loop-y-preserved
loop-y-preserved c = pairs_next c.loop-y.invariant (bytes (goal.at.loop-y-preserved c).In-loop-y) c.dither_pair-p.result c.dither_pair-p.ensures c.loop-y-test.true c.requires

pub returns : goal.returns
returns c = pairs_end c.loop-y.invariant c.loop-y-test.false
