use Prim.Native.Nat.{ℕ, ◌+◌, ◌<◌}
use native.Mathlib.Omega.{arith}
use lib.ListN.{get_or}
use Rattle.diffusion.proofs.OnesLoop.{ones-begun, ones_small, ones-next, ones-end}
use Rattle.diffusion.proofs.ones.dither_ones.Goals as goal
use Rattle.diffusion.proofs.ones.dither_ones.Goals.{After-part, In-loop-y}

bytes : (c : In-loop-y) (n : ℕ) → get_or c.args.gray.now n 0 < 256
bytes c n = let f = c.type_inv.gray n in omega arith

small : (c : After-part)
    → get_or c.args.gray.now c.loop-y.y 0 + c.part.result + 88 < 512
small c = ones_small (bytes (goal.at.overflow_add-value c).In-loop-y) c.loop-y.invariant c.part.result c.part.ensures.0

pub loop-y-init : goal.loop-y-init
loop-y-init c =
    let a = c.args in
    ones-begun a.height a.gray.now a.out.now

pub overflow_add-value : goal.overflow_add-value
overflow_add-value c = omega (arith, small c)

pub loop-y-preserved : goal.loop-y-preserved
loop-y-preserved c = ones-next (bytes (goal.at.loop-y-preserved c).In-loop-y) c.loop-y.invariant c.part.result c.part.ensures.0 c.loop-y-test.true c.requires

pub returns : goal.returns
returns c = ones-end c.loop-y.invariant c.loop-y-test.false
