use Prim.Native.Nat.{◌-◌}
use mathlib.Core.Path.{sym}
use native.Mathlib.Omega.{arith}
use lib.ListN.{length, drop, length-drop}
use lib.Seq.{take_all}
use Rattle.options.specs.Limits.{decoding}
use Rattle.options.proofs.Ceilings.{sixteen}
use Rattle.body_pieces.proofs.BodyCounts.{in_bounds}
use Rattle.decode_session.proofs.PlanesFed.{planes}
use Rattle.decode_session.proofs.feeding.feed_planes.Goals as goal

pub overflow_add-fed : goal.overflow_add-fed
overflow_add-fed c = omega (arith, c.well_formed, (in_bounds _ _ _ _ _ _ _ c.feed_body-body.ensures.advances).0)

pub returns : goal.returns
returns c =
    let a = c.args in
    planes a.options a.header _ _ a.whole a.begun a.from a.piece.now a.out.now _ _ c.feed_body-body.result
    (sym (sixteen (decoding a.options))) c.requires
    (take_all (length a.piece.now - a.from) (drop a.from a.piece.now) (rw length-drop (omega arith)))
    c.feed_body-body.ensures
    c.rebuilt.ensures
