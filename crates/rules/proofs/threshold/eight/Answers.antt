use Prim.Native.Nat.{ℕ}
use mathlib.Core.Path.{ap, sym}
use mathlib.Core.List.{[], ◌∷◌}
use native.Mathlib.Nat.{add-zero}
use lib.ListN.{get_or}
use Rattle.rules.specs.Bits.{upto}
use Rattle.rules.specs.Internal.Words.{samples_from}
use Rattle.rules.proofs.threshold.eight.Goals as goal

pub returns : goal.returns
unfolding upto
returns c =
    let a = c.args in
    let f : ℕ → ℕ = samples_from a.gray.now a.at in
    ap (λ (x : ℕ). x ∷ (f 1 ∷ (f 2 ∷ (f 3 ∷ (f 4 ∷ (f 5 ∷ (f 6 ∷ (f 7 ∷ []))))))))
    (ap (λ (i : ℕ). get_or a.gray.now i 0) (sym (add-zero a.at)))
