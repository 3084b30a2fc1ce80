use Rattle.decode_session.proofs.Asked.{body-fields}
use Rattle.decode_session.proofs.DecodeSession.fields.Goals as goal

pub returns-in-Body : goal.returns-in-Body
returns-in-Body c = body-fields _ _ _ _ c.in-Body.is
