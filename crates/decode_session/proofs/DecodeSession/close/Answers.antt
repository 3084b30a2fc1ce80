use Rattle.decode_session.proofs.CloseCalls.{close-shut, close_open}
use Rattle.decode_session.proofs.DecodeSession.close.Goals as goal

pub returns-then-not-self : goal.returns-then-not-self
returns-then-not-self c = close-shut _ _ c.if-not-self.true c.new.ensures

pub returns : goal.returns
returns c = close_open _ _ c.if-not-self.false c.finish.ensures
