use Rattle.std.proofs.lemmas.Result.{err_from_is_err_and}
use Rattle.encode_session.specs.Model.{opening}
use Rattle.encode_session.proofs.OpenCorrect.{untested}
use Rattle.encode_session.proofs.write_opening.Goals as goal

pub returns : goal.returns
returns g c =
    let a = c.args in
    rw (c.in_ok-check_opening.ensures a.text.now (g.P.PairList.lengths a.pairs)) c.write_header_ext.ensures

pub returns-in_err-check_opening : goal.returns-in_err-check_opening
returns-in_err-check_opening g c =
    let a = c.args in
    let p = err_from_is_err_and c.from_residual.result c.from_residual.ensures.1 in
    rw (p.1, p.2)
    (untested (opening a.options a.width a.height a.text.now (g.P.PairList.lengths a.pairs)) _ _
    (c.in_err-check_opening.ensures a.text.now (g.P.PairList.lengths a.pairs)) _)
