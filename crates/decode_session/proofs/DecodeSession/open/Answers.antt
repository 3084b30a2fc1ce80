use Rattle.decode_session.proofs.OpenCorrect.{opens}
use Rattle.decode_session.proofs.DecodeSession.open.Goals as goal

pub returns : goal.returns
returns c = opens _ _ _ _ c.new.ensures c.into.ensures _ _ c.check_buffer-answer.ensures c.is_ok.ensures.value
