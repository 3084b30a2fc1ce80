-- Inverted bytes.
use Prim.Native.Nat.{ℕ, zero, suc, ◌-◌, ◌<◌}
use mathlib.Core.Path.{◌≡◌, refl}
use mathlib.Core.List.{List, [], ◌∷◌}
use native.Mathlib.Omega.{arith}
use lib.ListN.{length, get_or, length-map}
use Rattle.image.specs.Rows.{invert}

pub invert-length : (row : List ℕ) → length (invert row) ≡ length row
invert-length row = length-map row (λ b. 255 - b)

pub invert-at : (row : List ℕ) (i : ℕ) → i < length row → get_or (invert row) i 0 ≡ 255 - get_or row i 0
invert-at [] i h = let f : ⊥ = omega arith in absurd f
invert-at (b ∷ row) zero h = refl
invert-at (b ∷ row) (suc i) h = invert-at row i (omega arith)
