use native.Mathlib.Omega.{arith}
use borrow.Author.Tests.{eqb-true}
use mir.Syntax.{w16}
use mir.ValLaws.{to_z_pos}
use Rattle.diffusion.proofs.RowEnds.{shifted-small, shifted-is, row-dithered}
use Rattle.diffusion.proofs.row.dither_row.Goals as goal

pub overflow_cast-out : goal.overflow_cast-out
overflow_cast-out c =
    let p = c.bytes-f.ensures in
    let q = c.dots-s.ensures _ p.at in
    rw (shifted-is _ _ _ c.requires _ _ _ p _ _ q) (record { fits = shifted-small _ _ _ c.requires _ _ _ p _ _ q })

pub returns : goal.returns
returns c =
    let p = c.bytes-f.ensures in
    let q = c.dots-s.ensures _ p.at in
    let l = c.requires in
    row-dithered _ _ _ l _ _ _ p _ _ q _ _ (shifted-is _ _ _ l _ _ _ p _ _ q) (to_z_pos w16 _ (omega arith)) _ (eqb-true _ 0)
