-- Settings that pass their test, and the frames that are read with them.
use Prim.Native.Nat.{◌≤◌}
use mathlib.Core.Path.{◌≡◌, refl}
use native.Mathlib.Omega.{arith}
use Rattle.error.specs.Answer.{gives}
use Rattle.options.specs.Limits.{Decoding, settled, ceiling_of}

pub passes : (d : Decoding) → settled d ≡ gives d
unfolding settled
passes d = refl

pub sixteen : (d : Decoding) → ceiling_of d ≡ 16
unfolding ceiling_of
sixteen d = refl

-- what the test says
pub record Tested (d e : Decoding) : Type 0 where
  pub same : d ≡ e
  pub some : 1 ≤ ceiling_of d
  pub few : ceiling_of d ≤ 16

pub tested : (d e : Decoding) → settled d ≡ gives e → Tested d e
unfolding settled
tested d e p = record { same = cc; some = omega (arith, sixteen d); few = omega (arith, sixteen d) }
