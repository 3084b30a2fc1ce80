use Prim.Native.Nat.{ℕ, ◌+◌}
use mathlib.Core.Path.{ap}
use native.Mathlib.Nat.{add-zero}
use native.Mathlib.Omega.{arith}
use lib.ListN.{get_or}
use Rattle.rules.specs.Bits.{upto}
use Rattle.rules.specs.Internal.Words.{Below, bytes, samples_from}
use Rattle.rules.proofs.threshold.word.Goals as goal

pub returns : goal.returns
unfolding bytes upto
returns c =
    let a = c.args in
    let f = samples_from a.gray.now a.at in
    let small : Below 256 f = λ i. omega (arith, c.type_inv.gray (a.at + i)) in
    let first = ap (λ (i : ℕ). get_or a.gray.now i 0) (add-zero a.at) in
    (omega (arith, rw c.eight.ensures at c.from_le_bytes.ensures, first), small)
