use Prim.Native.Nat.{◌≤◌}
use mathlib.Core.Path.{◌≡◌, sym, ap, subst, ◌∙◌}
use mathlib.Core.List.{List, ◌++◌}
use native.Mathlib.Omega.{arith}
use lib.ListN.{length, drop}
use lib.Seq.{length-take-le}
use Rattle.image.specs.Geometry.{plane_bytes}
use Rattle.image.specs.declared.PlaneLayout.{PlaneLayout}
use Rattle.body_pieces.specs.Internal.Body.{advanced}
use Rattle.body_pieces.proofs.BodyCounts.{in_bounds}
use Rattle.body_pieces.proofs.feed_body.Goals as goal
use Rattle.body_pieces.proofs.feed_body.Goals.{After-advance-next}

-- what is written is given and has room
module _ (c : After-advance-next) where
  given : c.advance-next.result.written ≤ length c.args.piece.now
  given = let b = in_bounds _ _ _ _ _ _ _ c.advance-next.ensures in omega (arith, b.0, b.1.0)

  room : c.advance-next.result.written ≤ length c.args.out.now
  room = (in_bounds _ _ _ _ _ _ _ c.advance-next.ensures).1.1

pub slice_bounds-convert-end : goal.slice_bounds-convert-end
slice_bounds-convert-end c = sym (length-take-le _ _ (given (goal.at.slice_bounds-convert-end c).After-advance-next))

pub slice_bounds-convert-end-2 : goal.slice_bounds-convert-end-2
slice_bounds-convert-end-2 c = room (goal.at.slice_bounds-convert-end-2 c).After-advance-next

pub slice_bounds-convert-end-3 : goal.slice_bounds-convert-end-3
slice_bounds-convert-end-3 c = sym (length-take-le _ _ (room (goal.at.slice_bounds-convert-end-3 c).After-advance-next))

pub convert-requires : goal.convert-requires
convert-requires c = length-take-le _ _ (given (goal.at.convert-requires c).After-advance-next) ∙ sym (length-take-le _ _ (room (goal.at.convert-requires c).After-advance-next))

pub returns : goal.returns
returns c =
    let a = c.args in
    let plane : c.new-plane.result.total_bytes ≡ plane_bytes a.place.width a.place.height =
    ap (λ (l : PlaneLayout). l.total_bytes) c.new-plane.ensures in
    record {
      advances =
          subst (λ n. c.advance-next.result ≡ advanced a.ceiling n a.place.whole a.place.begun (length a.piece.now)
          (length a.out.now)) plane c.advance-next.ensures;
      output = ap (λ (l : List _). l ++ drop c.advance-next.result.written a.out.now) c.convert.ensures;
    }
