use Prim.Native.Nat.{ℕ, ◌<◌}
use mathlib.Core.Path.{refl, sym, subst}
use native.Mathlib.Omega.{arith}
use lib.Dec.{leb}
use lib.ListN.{length, get_or}
use Rattle.rules.specs.Bits.{appended}
use Rattle.rules.specs.Internal.Kernels.{threshold_bit}
use Rattle.rules.proofs.DigitsAppended.{bit_le, bit_is, one_more, appended-fits}
use Rattle.rules.proofs.ThresholdBytes.{byte_more}
use Rattle.rules.proofs.threshold.threshold_dots.Goals as goal
use Rattle.rules.proofs.threshold.threshold_dots.Goals.{At-loop-sample}

low : (l : At-loop-sample) → l.loop-sample.digits < 65536
low l =
    let a = l.args in
    subst (λ (n : ℕ). n < 65536) (sym l.loop-sample.invariant)
    (appended-fits a.begun (threshold_bit a.bound a.gray.now) (λ i. bit_le (leb a.bound (get_or a.gray.now i 0)))
    (length a.gray.now) l.loop-sample.sample-index l.requires l.loop-sample.auto.sample-index-end)

pub returns-then-gray-eq8 : goal.returns-then-gray-eq8
returns-then-gray-eq8 c =
    let a = c.args in
    byte_more a.bound a.gray.now a.begun c.byte.result (length a.gray.now) c.if-gray-eq8.true c.byte.ensures

pub loop-sample-init : goal.loop-sample-init
unfolding appended
loop-sample-init c = refl

pub overflow_mul-digits : goal.overflow_mul-digits
overflow_mul-digits c = omega (arith, low (goal.at.overflow_mul-digits c).At-loop-sample)

pub overflow_add-digits : goal.overflow_add-digits
overflow_add-digits c =
    let b = leb c.args.bound (get_or c.args.gray.now c.loop-sample.sample-index 0) in
    omega (arith, low (goal.at.overflow_add-digits c).At-loop-sample, bit_is b c.from.result c.from.ensures, bit_le b)

pub loop-sample-preserved : goal.loop-sample-preserved
loop-sample-preserved c =
    let a = c.args in
    let s = c.loop-sample in
    one_more a.begun (threshold_bit a.bound a.gray.now) s.sample-index s.digits c.from.result s.invariant
    (bit_is (leb a.bound (get_or a.gray.now s.sample-index 0)) c.from.result c.from.ensures)
