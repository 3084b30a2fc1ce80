use Rattle.rules.proofs.EntryTold.{where-does}
use Rattle.dither.proofs.DitherBytesLoop.{dots-near}
use Rattle.dither.proofs.entry.dither_row_dots.Goals as goal

pub returns-then-diffusing : goal.returns-then-diffusing
returns-then-diffusing c =
    let a = c.args in
    let p = c.diffusing.ensures.yes c.if-diffusing.true in
    where-does p (dots-near a.start.width a.start.y a.start.column a.gray.now a.begun a.corner a.work.now _ _ _
    c.next_to-near.ensures c.dither_dots-d.ensures p.some)
