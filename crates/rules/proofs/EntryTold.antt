-- Functions that test what they would otherwise ask.
-- Assumes nothing.
use mathlib.Core.Path.{◌≡◌, sym, subst}
use mathlib.Core.Bool.{true, false}
use lib.Dec.{T}
use Rattle.rules.specs.Internal.Entry.{Where}

pub never : {X : Type 0} → false ≡ true → X
never e = absurd (subst T (sym e) tt)

module _ {P Does Idles : Type 0} where
  pub where-does : P → Does → Where P Does Idles
  where-does p d = record { does = λ _. d; idles = λ n. absurd (n p) }
