-- Corners of reading fields and of lookup, worked out by the definitions.
use Prim.Native.Nat.{ℕ, zero, suc, ◌<◌}
use mathlib.Core.Path.{◌≡◌, refl, ap}
use mathlib.Core.List.{List, [], ◌∷◌}
use mathlib.Core.Bool.{true, false}
use native.Mathlib.Omega.{arith}
use lib.ListN.{get_or}
use Rattle.error.specs.Answer.{gives, refuses}
use Rattle.ext.specs.Kinds.{pairs}
use Rattle.ext.specs.Classes.{all, is_alpha_digit}
use Rattle.ext.specs.Read.{read_octets, read_pair, read_pairs, read_fields}
use Rattle.ext.specs.Internal.Bytewise.{pairs_from}
use Rattle.ext.specs.Find.{pair_at, value_start, nothing, value_at, Looked}

-- a pair past the ceiling is refused with 10, whatever its lengths
over_first : pairs_from (0 ∷ []) false 0 4096 0 (λ end count τ. gives end) ≡ refuses 10 4096
unfolding pairs_from
over_first = refl

-- after 4,096 octets that continue, the end of the input is 9, and one more octet is 10
octets-ended : read_octets [] 0 4096 ≡ refuses 9 4096
unfolding read_octets
octets-ended = refl

octets-over : read_octets (0 ∷ []) 0 4096 ≡ refuses 10 4096
unfolding read_octets
octets-over = refl

-- 13's offset is the start of the part that is cut short
identifier-cut : read_fields false true 3 (33 ∷ 107 ∷ []) 0 ≡ refuses 13 1
unfolding read_fields read_pairs read_pair
identifier-cut = refl

-- an identifier outside its class whose value is cut short is 13
value-cut : read_fields true true 3 (18 ∷ 128 ∷ 49 ∷ []) 0 ≡ refuses 13 2
unfolding read_fields read_pairs read_pair
value-cut = refl

-- the classes are tested on a whole pair: the offset is after it
bad-identifier : read_fields true true 3 (17 ∷ 128 ∷ 33 ∷ []) 0 ≡ refuses 14 3
unfolding read_fields read_pairs read_pair all is_alpha_digit
bad-identifier = refl

bad-value : read_fields true true 3 (17 ∷ 107 ∷ 33 ∷ []) 0 ≡ refuses 15 3
unfolding read_fields read_pairs read_pair all is_alpha_digit
bad-value = refl

-- lenient reading takes both
lenient : read_fields false true 3 (17 ∷ 128 ∷ 33 ∷ []) 0 ≡ gives (pairs (record { identifier = 128 ∷ []; value = 33 ∷ [] } ∷ []), 3)
unfolding read_fields read_pairs read_pair
lenient = refl

-- P5's file: its fields stand at 2, the pair k = 12
abbrev p5 : List ℕ
p5 = 0 ∷ 224 ∷ 18 ∷ 107 ∷ 49 ∷ 50 ∷ 9 ∷ 2 ∷ []

-- k is found: its value stands at 4 and has 2 bytes
found : Looked (read_fields false true 3 p5 2) p5 2 (107 ∷ []) (gives (value_at 4 2))
unfolding read_fields read_pairs read_pair value_start
found = (0, record { below = omega arith; same = refl; starts = refl; long = refl; bytes = refl })

-- j is not
not_found : Looked (read_fields false true 3 p5 2) p5 2 (106 ∷ []) (gives nothing)
unfolding read_fields read_pairs read_pair
not_found = other
  where
    other : (i : ℕ) → i < 1 → (pair_at (record { identifier = 107 ∷ []; value = 49 ∷ 50 ∷ [] } ∷ []) i).identifier ≡ 106 ∷ [] → ⊥
    other zero h e = let b : ◌≡◌ {A = ℕ} 107 106 = ap (λ (l : List ℕ). get_or l 0 0) e in omega arith
    other (suc i) h e = omega arith

-- fields that are refused, here at the file's end, refuse the lookup
not-read : Looked (read_fields false true 3 p5 8) p5 8 (107 ∷ []) (refuses 9 8)
unfolding read_fields read_pairs
not-read = (refl, refl)
