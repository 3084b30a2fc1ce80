use Prim.Native.Nat.{ℕ, ◌*◌, ◌/◌, ◌%◌, ◌^◌}
use mathlib.Core.Path.{◌≡◌, refl, ap, ◌∙◌, subst}
use mathlib.Core.List.{List, ◌++◌}
use native.Mathlib.Omega.{arith}
use lib.ListN.{set, replicate, length-set}
use Rattle.rules.specs.Ordered.{number, numbers}
use Rattle.rules.proofs.UptoOverlaid.{overlaid, overlaid-none, overlaid-next}
use Rattle.ordered.proofs.OrderedNumbers.{area-le, drop-replicate}
use Rattle.ordered.proofs.table.filled.Invariants.{number_at}
use Rattle.ordered.proofs.table.filled.Goals as goal

pub loop-i-init : goal.loop-i-init
loop-i-init c = (refl, λ k e. overlaid-none (number_at k) (replicate 64 0))

pub loop-i-preserved : goal.loop-i-preserved
loop-i-preserved c =
    let s = c.args.side in
    let v = c.loop-i.invariant in (
      length-set c.loop-i.table c.loop-i.i c.cell.result ∙ v.0,
      λ k e.
          ap (λ (t : List ℕ). set t c.loop-i.i c.cell.result) (v.1 k e)
          ∙ overlaid-next (number_at k) (replicate 64 0) c.loop-i.i c.cell.result (omega (arith, area-le s c.requires.1))
          (subst (λ (t : ℕ). c.cell.result ≡ number k (c.loop-i.i % t) (c.loop-i.i / t)) e (c.cell.ensures.is k e)),
    )

pub returns : goal.returns
unfolding numbers
returns c =
    λ k e.
    let s = c.args.side in
    let n : c.loop-i.i ≡ s * s = omega arith in
    c.loop-i.invariant.1 k e
    ∙ ap (λ (t : ℕ). overlaid t (number_at k) (replicate 64 0)) n
    ∙ ap (λ (t : ℕ). overlaid (t * t) (number_at k) (replicate 64 0)) e
    ∙ ap (λ (z : List ℕ). numbers k ++ z) (drop-replicate 64 (2 ^ k * 2 ^ k) 0)
