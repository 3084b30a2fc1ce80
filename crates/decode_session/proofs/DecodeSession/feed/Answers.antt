use Rattle.std.proofs.lemmas.Result.{err_from_is_err_and}
use Rattle.decode_session.proofs.FeedCalls.{feed-closed, feed-met, short-in-header, short-in-body, feed-header, feed-refused, feed-body}
use Rattle.decode_session.proofs.DecodeSession.feed.Goals as goal

pub returns-then-not-self : goal.returns-then-not-self
returns-then-not-self c = feed-closed _ _ _ _ _ c.if-not-self.true c.new.ensures

pub returns-in_err-check_buffer-in-Header : goal.returns-in_err-check_buffer-in-Header
returns-in_err-check_buffer-in-Header c =
    let p = err_from_is_err_and c.from_residual.result c.from_residual.ensures.1 in
    rw (p.1, p.2) (short-in-header _ _ _ _ _ c.if-not-self.false _ c.in-Header.is c.in_err-check_buffer-in-Header.ensures)

pub returns-in_err-check_buffer-in-Body : goal.returns-in_err-check_buffer-in-Body
returns-in_err-check_buffer-in-Body c =
    let p = err_from_is_err_and c.from_residual-in_err-check_buffer-in-Body.result c.from_residual-in_err-check_buffer-in-Body.ensures.1 in
    rw (p.1, p.2) (short-in-body _ _ _ _ _ c.if-not-self.false _ _ _ c.in-Body.is c.in_err-check_buffer-in-Body.ensures)

pub returns-in-Ok : goal.returns-in-Ok
returns-in-Ok c =
    feed-header _ _ _ _ _ _ c.if-not-self.false _ c.in-Header.is _ c.fields-known.ensures _ _ c.in-Ok.ensures

pub returns-in-Err : goal.returns-in-Err
returns-in-Err c =
    feed-refused _ _ _ _ _ _ c.if-not-self.false _ c.in-Header.is _ c.fields-known.ensures _ c.in-Err.ensures

pub returns-in_ok-check_buffer-in-Body : goal.returns-in_ok-check_buffer-in-Body
returns-in_ok-check_buffer-in-Body c =
    feed-body _ _ _ _ _ c.if-not-self.false c.in_ok-check_buffer-in-Body.ensures _ _ _ c.in-Body.is _ c.feed_planes-stage.ensures

pub returns-in-Refused : goal.returns-in-Refused
returns-in-Refused c = feed-met _ _ _ _ _ c.if-not-self.false _ c.in-Refused.is
