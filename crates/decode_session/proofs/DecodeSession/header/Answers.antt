use mathlib.Core.Logic.{⊎_elim}
use Rattle.decode_session.proofs.HeaderShown.{sees-none, sees-refused}
use Rattle.decode_session.proofs.DecodeSession.header.Goals as goal

pub returns-in-Header : goal.returns-in-Header
returns-in-Header c = ⊎_elim (λ h. sees-none _ _ h.1) (λ r. sees-refused _ _ _ r.2) c.in-Header.is
