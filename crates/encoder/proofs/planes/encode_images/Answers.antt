use Rattle.std.proofs.lemmas.Result.{err_from_is_err_and}
use Rattle.ext_write.proofs.Begun.{begun-put, begun-refused}
use Rattle.encoder.proofs.planes.encode_images.Goals as goal

pub returns : goal.returns
returns g c = begun-put _ _ _ _ _ _ _ _ (c.in_ok-begun.ensures _ c.check_pairs-found.ensures) c.put_pairs.ensures

pub returns-in_err-begun : goal.returns-in_err-begun
returns-in_err-begun g c =
    let p = err_from_is_err_and c.from_residual.result c.from_residual.ensures.1 in
    rw (p.1, p.2) (begun-refused _ _ _ _ _ _ (c.in_err-begun.ensures _ c.check_pairs-found.ensures))
