use mathlib.Core.Path.{◌≡◌, ap, ◌∙◌}
use Prim.Native.Nat.{ℕ, ◌+◌}
use native.Mathlib.Omega.{arith}
use lib.IntN.{sub_ℕ}
use Rattle.rules.specs.Diffusion.{value}
use Rattle.rules.proofs.Differences.{value-is, stepped}
use Rattle.dither.proofs.dots.step.Goals as goal
use Rattle.dither.proofs.dots.step.Goals.{After-part-4}

-- the value, plus 128, and that it is
abbrev sum : After-part-4 → ℕ
sum j =
    j.args.gray + (j.part.result + j.part-2.result + j.part-3.result) + j.part-4.result

sum-is : (j : After-part-4)
    → let a = j.args in
    value a.gray (sub_ℕ a.near.left 128) (sub_ℕ a.near.corner 128) (sub_ℕ a.near.above 128) (sub_ℕ a.ahead 128) ≡ sub_ℕ (sum j) 128
sum-is j =
    let a = j.args in
    let l = j.part-4.result in
    let p = j.part.result in
    let q = j.part-2.result in
    let r = j.part-3.result in
    let e : a.gray + l + p + q + r ≡ a.gray + (p + q + r) + l = omega arith in
    value-is a.gray a.near.left a.near.corner a.near.above a.ahead l p q r
    j.part-4.ensures.is j.part.ensures.is j.part-2.ensures.is
    j.part-3.ensures.is
    ∙ ap (λ (n : ℕ). sub_ℕ n 128) e

pub returns : goal.returns
returns c = stepped (sum c) (sum-is c) (omega arith)
