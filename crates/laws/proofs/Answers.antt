-- What an answer gives, its parts give.
use Prim.Native.Nat.{ℕ}
use mathlib.Core.Path.{◌≡◌, refl, ap}
use mathlib.Core.Bool.{Bool, true, false}
use Rattle.error.specs.Choice.{if}
use Rattle.std.proofs.Common.{Result, Ok, Err}
use Rattle.std.specs.Result.{IsErrAnd}
use Rattle.error.specs.Answer.{Answer, gives, refuses, bind, map}
use Rattle.error.specs.declared.WbmpError.{WbmpError}
use Rattle.laws.proofs.Tests.{zero_one}

pub bind-gives : {A B : Type 0} (a : Answer A) (f : A → Answer B) (b : B) → bind a f ≡ gives b → (x : A) × (a ≡ gives x) × (f x ≡ gives b)
bind-gives (gives x) f b e = (x, refl, e)
bind-gives (refuses code offset) f b e = zero_one (cc)

pub map_gives : {A B : Type 0} (f : A → B) (a : Answer A) (b : B) → map f a ≡ gives b → (x : A) × (a ≡ gives x) × (f x ≡ b)
map_gives f (gives x) b e = (x, refl, cc)
map_gives f (refuses code offset) b e = zero_one (cc)

-- behind a test that refuses
pub unless : {A : Type 0} (t : Bool) (code offset : ℕ) (a : Answer A) (x : A) → if t (refuses code offset) a ≡ gives x
    → (t ≡ false) × (a ≡ gives x)
unless true code offset a x e = zero_one (cc)
unless false code offset a x e = (refl, e)

pub when : {A : Type 0} (t : Bool) (code offset : ℕ) (a : Answer A) (x : A) → if t a (refuses code offset) ≡ gives x
    → (t ≡ true) × (a ≡ gives x)
when true code offset a x e = (refl, e)
when false code offset a x e = zero_one (cc)

-- equal answers give equal values
module _ {A B : Type 0} {a c : A} {b d : B} where
  pub gives-pair : ◌≡◌ {A = Answer (A × B)} (gives (a, b)) (gives (c, d)) → (a ≡ c) × (b ≡ d)
  gives-pair e =
      let p : ◌≡◌ {A = A × B} (a, b) (c, d) = cc in
      (ap (λ (r : A × B). r.0) p, ap (λ (r : A × B). r.1) p)

-- an error that `?` passes on is the one that it met
pub passed : {A : Type 0} (r : Result A WbmpError) (e : WbmpError) → IsErrAnd r (λ d. d ≡ e) → r ≡ Err e
passed (Ok a) e h = absurd h
passed (Err d) e h = ap Err h
