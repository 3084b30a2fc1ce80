use native.Mathlib.Omega.{arith}
use mir.Syntax.{w16}
use mir.ValLaws.{to_z_pos}
use Rattle.diffusion.proofs.LevelDots.{level-dots}
use Rattle.diffusion.proofs.row.eight_dots_or_level.Goals as goal

pub returns-in-Some : goal.returns-in-Some
returns-in-Some c =
    let a = c.args in
    let p = c.requires in
    λ old t. level-dots a.gray.now old a.x a.f a.work.now _ (rw c.from.ensures c.in-Some.ensures) t p.1 p.0.in_row p.0.kept _
    (to_z_pos w16 _ (omega arith))
