use native.Mathlib.Omega.{arith}
use Rattle.decode_session.proofs.CloseAnswers.{finish-header, finish-short, finish-body}
use Rattle.decode_session.proofs.closing.finish.Goals as goal

pub returns-in-Header : goal.returns-in-Header
returns-in-Header c = finish-header _ _ _ c.in-Header.is c.ended.ensures

pub returns-in-Body-default-eq0-default : goal.returns-in-Body-default-eq0-default
returns-in-Body-default-eq0-default c =
    let b = c.in-Body-default-eq0-default in
    finish-short _ _ _ _ b.is _ (omega arith) c.new.ensures

pub returns-in-Body : goal.returns-in-Body
returns-in-Body c = finish-body _ _ _ _ c.in-Body.is _ (rw c.in-Body.is at c.in-Body.whole-test.1) c.min.ensures
