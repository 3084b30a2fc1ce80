use mathlib.Core.Path.{refl, ap}
use Rattle.std.proofs.lemmas.Result.{err_from_is_err_and}
use Rattle.image.specs.declared.PlaneLayout.{PlaneLayout}
use Rattle.decode_session.proofs.BodyBegun.{begins, over}
use Rattle.decode_session.proofs.feeding.feed_first.Goals as goal

pub returns-in_err-check : goal.returns-in_err-check
returns-in_err-check c =
    let p = err_from_is_err_and c.from_residual.result c.from_residual.ensures.1 in
    rw (p.1, p.2)
    (over _ _ _ _ _ c.check.result _ _ c.check.ensures c.in_err-check.was
    (ap (λ (l : PlaneLayout). l.total_bytes) c.new-layout.ensures) _ refl)

pub returns : goal.returns
returns c =
    begins _ _ _ _ _ c.check.result _ _ c.check.ensures c.in_ok-check.was
    (ap (λ (l : PlaneLayout). l.total_bytes) c.new-layout.ensures) _ _ refl c.feed_planes.ensures
