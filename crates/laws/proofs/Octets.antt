-- Lists of bytes: every element is below 256. Past the end `get_or` gives 0, so no index is left out.
use Prim.Native.Nat.{ℕ, zero, suc, ◌+◌, ◌<◌}
use mathlib.Core.Path.{◌≡◌, refl, sym, subst}
use mathlib.Core.List.{List, [], ◌∷◌, ◌++◌}
use mathlib.Core.Bool.{Bool, true, false, ◌&&◌}
use native.Mathlib.Omega.{arith}
use borrow.Author.Tests.{ltb-true}
use lib.Dec.{ltb}
use lib.ListN.{get_or, drop, set}
use lib.Seq.{get_or-drop}
use Rattle.laws.proofs.Tests.{zero_one}

abbrev pub Octets : List ℕ → Type 0
Octets s = (i : ℕ) → get_or s i 0 < 256

pub octets-nil : Octets []
octets-nil i = omega arith

pub octets-cons : (b : ℕ) (s : List ℕ) → b < 256 → Octets s → Octets (b ∷ s)
octets-cons b s h o zero = h
octets-cons b s h o (suc i) = o i

pub octets-drop : (n : ℕ) (s : List ℕ) → Octets s → Octets (drop n s)
octets-drop n s o i = subst (λ (b : ℕ). b < 256) (sym (get_or-drop n s i 0)) (o (n + i))

pub octets-append : (s t : List ℕ) → Octets s → Octets t → Octets (s ++ t)
octets-append [] t o p = p
octets-append (b ∷ s) t o p = octets-cons b (s ++ t) (o 0) (octets-append s t (λ i. o (suc i)) p)

pub octets-set : (l : List ℕ) (i b : ℕ) → b < 256 → Octets l → Octets (set l i b)
octets-set [] i b h o = octets-nil
octets-set (x ∷ l) zero b h o = octets-cons b l h (λ i. o (suc i))
octets-set (x ∷ l) (suc i) b h o = octets-cons x (set l i b) (o 0) (octets-set l i b h (λ j. o (suc j)))

-- for a list that is written out, by computing
abbrev pub are_octets : List ℕ → Bool
are_octets [] = true
are_octets (b ∷ s) = ltb b 256 && are_octets s

pub octets-by : (s : List ℕ) → are_octets s ≡ true → Octets s
octets-by [] e = octets-nil
octets-by (b ∷ s) e = go (ltb b 256) refl e (octets-by s)
  where
    go : (t : Bool) → ltb b 256 ≡ t → (t && are_octets s) ≡ true → (are_octets s ≡ true → Octets s) → Octets (b ∷ s)
    go true p e ih = octets-cons b s (ltb-true b 256 p) (ih e)
    go false p e ih = zero_one (cc)
