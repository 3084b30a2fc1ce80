-- Lists of a function's values, and bits packed into a byte.
use Rattle.std.specs.Prelude.{ℕ, zero, suc, ◌+◌, ◌*◌, Bool, true, false, List, [], ◌∷◌, ◌++◌}

-- f 0, f 1, .. f (n - 1)
unfoldable pub upto {ℓ} : {A : Type ℓ} → ℕ → (ℕ → A) → List A
upto zero f = []
upto (suc n) f = upto n f ++ (f n ∷ [])

-- the bit of a dot: 1 is white
abbrev pub bit : Bool → ℕ
bit true = 1
bit false = 0

-- the number whose binary digits are those of `begun` and then m of f's, the first one the highest
unfoldable pub appended : ℕ → (ℕ → ℕ) → ℕ → ℕ
appended begun f zero = begun
appended begun f (suc m) = appended begun f m * 2 + f m

-- the number with m binary digits
abbrev pub digits : (ℕ → ℕ) → ℕ → ℕ
digits f m = appended 0 f m
