-- Tests and choices.
use Prim.Native.Nat.{ℕ, ◌≤◌, ◌<◌}
use mathlib.Core.Path.{◌≡◌, refl, ap}
use mathlib.Core.Bool.{Bool, true, false, ◌&&◌, ◌||◌}
use mathlib.Core.Logic.{◌⊎◌, inl, inr}
use native.Mathlib.Omega.{arith}
use native.Mathlib.Decide.{dec_lt}
use Rattle.error.specs.Choice.{if}

-- two numbers that cannot be equal prove anything: `zero_one (cc)` where two constructors would be equal
pub zero_one : {X : Type 0} → ◌≡◌ {A = ℕ} 0 1 → X
zero_one z = let f : ⊥ = omega arith in absurd f

pub lt-or-le : (a b : ℕ) → (a < b) ⊎ (b ≤ a)
lt-or-le a b = elim (dec_lt a b) [ yes h ↦ inl h | no h ↦ inr (omega arith) ]

pub if-true : {A : Type 0} (t : Bool) (x y : A) → t ≡ true → if t x y ≡ x
if-true t x y e = ap (λ (b : Bool). if b x y) e

pub if-false : {A : Type 0} (t : Bool) (x y : A) → t ≡ false → if t x y ≡ y
if-false t x y e = ap (λ (b : Bool). if b x y) e

-- what holds of both choices, each under its test, holds of the one that is made
pub if-elim : {A : Type 0} (P : A → Type 0) (t : Bool) (x y : A) → (t ≡ true → P x) → (t ≡ false → P y) → P (if t x y)
if-elim P true x y p q = p refl
if-elim P false x y p q = q refl

-- two tests
pub both_true : (s t : Bool) → (s && t) ≡ true → (s ≡ true) × (t ≡ true)
both_true true t e = (refl, e)
both_true false t e = zero_one (cc)

pub neither : (s t : Bool) → (s || t) ≡ false → (s ≡ false) × (t ≡ false)
neither true t e = zero_one (cc)
neither false t e = (refl, e)

pub and-false : (t : Bool) → (t && false) ≡ false
and-false true = refl
and-false false = refl
