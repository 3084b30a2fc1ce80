-- The fault that waits while a pair is read byte by byte is that of the classes of its identifier and value.
use Prim.Native.Nat.{ℕ}
use mathlib.Core.Path.{◌≡◌, ◌∙◌, refl}
use mathlib.Core.List.{List, [], ◌∷◌}
use mathlib.Core.Bool.{Bool, true, false, ◌&&◌}
use lib.Dec.{eqb}
use Rattle.error.specs.Choice.{if}
use Rattle.ext.specs.Classes.{is_char, is_alpha_digit, all, in_class}
use Rattle.ext.specs.Internal.Bytewise.{identifier_fault, value_fault}

-- the fault after some bytes of an identifier, and of a value
unfoldable pub identifier_faults : Bool → ℕ → List ℕ → ℕ
identifier_faults strict fault [] = fault
identifier_faults strict fault (b ∷ bs) = identifier_faults strict (identifier_fault strict fault b) bs

unfoldable pub value_faults : Bool → ℕ → List ℕ → ℕ
value_faults strict fault [] = fault
value_faults strict fault (b ∷ bs) = value_faults strict (value_fault strict fault b) bs

identifier-faults : (strict : Bool) (fault : ℕ) (bs : List ℕ) → identifier_faults strict fault bs ≡ if (in_class strict is_char bs) fault 14
unfolding identifier_faults identifier_fault all
identifier-faults false fault [] = refl
identifier-faults false fault (b ∷ bs) = identifier-faults false fault bs
identifier-faults true fault [] = refl
identifier-faults true fault (b ∷ bs) = identifier-faults true (if (is_char b) fault 14) bs ∙ go (is_char b) (all is_char bs)
  where
    go : (t u : Bool) → if u (if t fault 14) 14 ≡ if (t && u) fault 14
    go true u = refl
    go false true = refl
    go false false = refl

if-same : (t : Bool) (n : ℕ) → n ≡ if t n n
if-same true n = refl
if-same false n = refl

value-faults : (strict : Bool) (fault : ℕ) (bs : List ℕ)
    → value_faults strict fault bs ≡ if (eqb fault 0) (if (in_class strict is_alpha_digit bs) fault 15) fault
unfolding value_faults value_fault all
value-faults false fault [] = if-same (eqb fault 0) fault
value-faults false fault (b ∷ bs) = value-faults false fault bs
value-faults true fault [] = if-same (eqb fault 0) fault
value-faults true fault (b ∷ bs) = go (eqb fault 0) (is_alpha_digit b) refl (value-faults true fault bs) (value-faults true 15 bs)
  where
    go : (t u : Bool) → eqb fault 0 ≡ t
        → value_faults true fault bs ≡ if (eqb fault 0) (if (all is_alpha_digit bs) fault 15) fault
        → value_faults true 15 bs ≡ 15
        → value_faults true (if t (if u fault 15) fault) bs ≡ if t (if (u && all is_alpha_digit bs) fault 15) fault
    go false u e same set = rw e at same
    go true true e same set = rw e at same
    go true false e same set = set

-- an identifier's fault comes before a value's
pub pair-fault : (strict : Bool) (identifier value : List ℕ)
    → value_faults strict (identifier_faults strict 0 identifier) value
    ≡ if (in_class strict is_char identifier) (if (in_class strict is_alpha_digit value) 0 15) 14
pair-fault strict identifier value = rw (identifier-faults strict 0 identifier) (go (in_class strict is_char identifier))
  where
    go : (t : Bool) → value_faults strict (if t 0 14) value ≡ if t (if (in_class strict is_alpha_digit value) 0 15) 14
    go true = value-faults strict 0 value
    go false = value-faults strict 14 value
