use native.Mathlib.Omega.{arith}
use Rattle.diffusion.proofs.RowHanded.{next-begun, next-from-sums}
use Rattle.diffusion.proofs.rows.next_row.Goals as goal

pub returns-then-begin_row : goal.returns-then-begin_row
returns-then-begin_row c =
    let a = c.args in
    next-begun a.gray.now a.work.now _ (λ i. let f = c.type_inv.gray i in omega arith) a.level _ _ c.if-begin_row.true
    c.begin_row.ensures

pub returns : goal.returns
returns c =
    let a = c.args in
    next-from-sums a.gray.now a.work.now _ (λ i. let f = c.type_inv.gray i in omega arith) a.level _ _ _ _ _
    c.if-begin_row.false c.begin_row.ensures c.dither_row.ensures
