use Prim.Native.Nat.{ℕ, ◌<◌}
use mathlib.Core.Path.{refl, ◌∙◌, subst}
use lib.IntN.{pos}
use lib.Seq.{length-take-le}
use Rattle.diffusion.proofs.RowHanded.{begun-plain, begun-level}
use Rattle.diffusion.proofs.rows.begin_row.Goals as goal

pub returns-then-plain_row : goal.returns-then-plain_row
returns-then-plain_row c =
    let a = c.args in
    begun-plain a.gray.now a.work.now _ a.level _ a.out.now c.if-not-level.false c.if-plain_row.true
    c.requires.room c.plain_row.ensures

pub returns : goal.returns
returns c =
    let a = c.args in
    let k = c.fill.ensures.len ∙ length-take-le _ a.work.now c.requires.kept in
    begun-level a.gray.now a.work.now _ _ k (λ x l. c.fill.ensures.clones x (pos 0) (subst (λ (n : ℕ). x < n) c.fill.ensures.len l) refl) a.level
    c.if-not-level.false
