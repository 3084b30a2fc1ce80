use Prim.Native.Nat.{ℕ, ◌*◌}
use mathlib.Core.Path.{◌≡◌, ap, ◌∙◌}
use mathlib.Core.List.{List}
use native.Mathlib.Omega.{arith}
use lib.ListN.{length, set}
use Rattle.rules.specs.Bits.{digits, upto}
use Rattle.rules.specs.Internal.Kernels.{threshold_from}
use Rattle.rules.proofs.UptoOverlaid.{overlaid-none, overlaid-next, overlaid-all}
use Rattle.rules.proofs.threshold.threshold_bytes.Goals as goal

pub loop-k-init : goal.loop-k-init
loop-k-init c = overlaid-none (λ j. digits (threshold_from c.args.bound c.args.gray.now (8 * j)) 8) c.args.out.now

pub loop-k-preserved : goal.loop-k-preserved
loop-k-preserved c =
    let a = c.args in
    let k = c.loop-k.k in
    let f : ℕ → ℕ = λ j. digits (threshold_from a.bound a.gray.now (8 * j)) 8 in
    ap (λ (o : List ℕ). set o k c.byte.result) c.loop-k.invariant
    ∙ overlaid-next f a.out.now k c.byte.result (omega arith) c.byte.ensures

pub returns : goal.returns
returns c =
    let a = c.args in
    let f : ℕ → ℕ = λ j. digits (threshold_from a.bound a.gray.now (8 * j)) 8 in
    let e : c.loop-k.k ≡ length a.out.now = omega arith in
    c.loop-k.invariant ∙ overlaid-all f a.out.now c.loop-k.k e ∙ ap (λ (n : ℕ). upto n f) e
