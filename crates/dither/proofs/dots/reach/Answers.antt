use mathlib.Core.Path.{refl, sym, ◌∙◌}
use native.Mathlib.Omega.{arith}
use Rattle.dither.proofs.CarryRead.{over-alike, over-past, over-top}
use Rattle.dither.proofs.dots.reach.Goals as goal

-- `quantize::dither::reach` meets its contract.
-- Assumes nothing.
pub returns-then-y-gt0 : goal.returns-then-y-gt0
returns-then-y-gt0 c =
    let a = c.args in
    record { most = omega arith; all = λ _. refl; is = λ kept x. over-alike a.width kept a.y x c.if-y-gt0.true }

pub returns-else-y-gt0 : goal.returns-else-y-gt0
returns-else-y-gt0 c =
    let a = c.args in
    record {
      most = omega arith;
      all = λ h. let z : ⊥ = omega arith in absurd z;
      is = λ kept x. over-top a.width kept a.y x c.if-y-gt0.false ∙ sym (over-past 0 kept 1 x (omega arith) (omega arith));
    }
