use Prim.Native.Nat.{◌%◌}
use native.Mathlib.Omega.{arith}
use Rattle.rules.proofs.WordCompared.{low_fits, dots-below, dots-above}
use Rattle.rules.proofs.threshold.compared.Goals as goal

pub overflow_sub-low : goal.overflow_sub-low
overflow_sub-low c = low_fits c.args.samples (c.args.bound % 128) (omega arith)

pub returns-then-bound-lt128 : goal.returns-then-bound-lt128
returns-then-bound-lt128 c f h e = rw e (dots-below c.args.bound f h (omega arith))

pub returns : goal.returns
returns c f h e = rw e (dots-above c.args.bound f h (omega arith) (omega arith))
