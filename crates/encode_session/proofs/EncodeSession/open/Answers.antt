use Rattle.encode_session.proofs.OpenCorrect.{opens}
use Rattle.encode_session.proofs.EncodeSession.open.Goals as goal

pub returns : goal.returns
returns g c = opens _ _ _ _ _ _ _ c.new.ensures c.is_ok.ensures.value c.write_opening-answer.ensures
