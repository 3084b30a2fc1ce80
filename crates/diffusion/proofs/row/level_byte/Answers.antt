use Rattle.diffusion.proofs.LevelTold.{level-told}
use Rattle.diffusion.proofs.row.level_byte.Goals as goal

pub returns-then-plain_row : goal.returns-then-plain_row
returns-then-plain_row c =
    let a = c.args in
    level-told a.gray.now _ _ _ c.plain_row.ensures c.if-plain_row.true a.right a.sums.now c.if-right-eq-NONE_7.true
    (c.are_level.ensures c.if-are_level.true)
