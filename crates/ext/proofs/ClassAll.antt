-- The class of a whole part, where it is asked for.
use Prim.Native.Nat.{ℕ}
use mathlib.Core.Path.{◌≡◌, sym, ap}
use mathlib.Core.Bool.{Bool, true}
use mathlib.Core.List.{List}
use Rattle.ext.specs.Classes.{all, in_class}

pub strict-class : (strict : Bool) (p : ℕ → Bool) (s : List ℕ) → strict ≡ true → all p s ≡ in_class strict p s
strict-class strict p s e = ap (λ (b : Bool). in_class b p s) (sym e)
