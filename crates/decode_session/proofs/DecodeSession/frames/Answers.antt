use mathlib.Core.Logic.{⊎_elim}
use Rattle.decode_session.proofs.Asked.{header-frames, body-frames, refused-frames}
use Rattle.decode_session.proofs.DecodeSession.frames.Goals as goal

pub returns-in-Body : goal.returns-in-Body
returns-in-Body c = body-frames _ _ _ _ c.in-Body.is _ c.min.ensures

pub returns-in-Header : goal.returns-in-Header
returns-in-Header c = ⊎_elim (λ h. header-frames _ _ h.1) (λ r. refused-frames _ _ _ r.2) c.in-Header.is
