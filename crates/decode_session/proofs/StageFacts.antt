-- What a session's stage and settings say of the plain machine that it stands for.
use Prim.Native.Nat.{ℕ, ◌≤◌}
use mathlib.Core.Path.{◌≡◌, subst}
use Rattle.header.specs.Read.{parsed}
use Rattle.header.specs.declared.ParsedHeader.{ParsedHeader}
use Rattle.options.specs.Limits.{Decoding, ceiling_of}
use Rattle.options.proofs.Ceilings.{tested}
use Rattle.decode_session.specs.Model.{Model}
use Rattle.decode_session.specs.Session.{InBody, StageOf, Settled}
use Rattle.decode_session.specs.declared.Stage.{Stage}

-- by the stage that a session's turned out to be
pub staged : {s x : Stage} (m : Model) → s ≡ x → StageOf s m → StageOf x m
staged m g h = subst (λ (x : Stage). StageOf x m) g h

pub in-body : {s : Stage} {p : ParsedHeader} {whole begun : ℕ} (m : Model) → s ≡ Stage.Body p whole begun → StageOf s m
    → InBody m (parsed p) whole begun
in-body m g h = staged m g h

-- the ceiling of settings that passed their test
module _ {d : Decoding} (b : Settled d) where
  pub ceiling-some : 1 ≤ ceiling_of d
  ceiling-some = (tested d d b).some

  pub ceiling-few : ceiling_of d ≤ 16
  ceiling-few = (tested d d b).few
