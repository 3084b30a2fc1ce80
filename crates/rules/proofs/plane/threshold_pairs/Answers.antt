use Prim.Native.Nat.{ℕ, ◌+◌}
use mathlib.Core.Path.{refl, ap, ◌∙◌}
use mathlib.Core.List.{List}
use native.Mathlib.Omega.{arith}
use lib.ListN.{set}
use Rattle.rules.specs.Packed.{byte_at}
use Rattle.rules.specs.Internal.Kernels.{threshold_bit}
use Rattle.rules.proofs.UptoOverlaid.{overlaid-none, overlaid-next}
use Rattle.rules.proofs.PlaneWritten.{pairs-byte, bytes-plane}
use Rattle.rules.proofs.plane.threshold_pairs.Goals as goal

pub loop-i-init : goal.loop-i-init
loop-i-init c =
    let a = c.args in
    overlaid-none (byte_at 2 (threshold_bit a.bound a.gray.now)) a.out.now

pub loop-i-preserved : goal.loop-i-preserved
loop-i-preserved c =
    let a = c.args in
    let i = c.loop-i.i in
    let v = c.dot_bit.result + c.dot_bit-in-loop-i.result in
    ap (λ (o : List ℕ). set o i v) c.loop-i.invariant
    ∙ overlaid-next (byte_at 2 (threshold_bit a.bound a.gray.now)) a.out.now i v (omega arith)
    (pairs-byte a.bound a.gray.now i _ _ c.dot_bit.ensures c.dot_bit-in-loop-i.ensures)

pub returns : goal.returns
returns c =
    bytes-plane c.args.bound c.args.gray.now 2 c.loop-i.i c.args.out.now c.loop-i.out refl (omega arith) c.loop-i.invariant
