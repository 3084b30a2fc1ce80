-- A list and something behind it.
use Prim.Native.Nat.{ℕ, zero, suc}
use mathlib.Core.Path.{◌≡◌, refl, sym, ap, ◌∙◌}
use mathlib.Core.List.{List, [], ◌∷◌, ◌++◌, append_assoc}
use lib.ListN.{length, take, drop}
use lib.Seq.{drop-append_seam}

pub record Extends (front whole : List ℕ) : Type 0 where
  pub rest : List ℕ
  pub whole_is : whole ≡ front ++ rest

pub drop-extends : (n : ℕ) (s ρ : List ℕ) → Extends (drop n s) (drop n (s ++ ρ))
drop-extends zero s ρ = record { rest = ρ; whole_is = refl }
drop-extends (suc n) [] ρ = record { rest = drop (suc n) ρ; whole_is = refl }
drop-extends (suc n) (b ∷ s) ρ = drop-extends n s ρ

pub take-extends : (n : ℕ) (s ρ : List ℕ) → Extends (take n s) (take n (s ++ ρ))
take-extends zero s ρ = record { rest = []; whole_is = refl }
take-extends (suc n) [] ρ = record { rest = take (suc n) ρ; whole_is = refl }
take-extends (suc n) (b ∷ s) ρ =
    let e = take-extends n s ρ in
    record { rest = e.rest; whole_is = ap (λ (l : List ℕ). b ∷ l) e.whole_is }

-- what stands behind
pub behind : {a b : List ℕ} → Extends a b → b ≡ a ++ drop (length a) b
behind {a} {b} e =
    e.whole_is ∙ ap (λ (l : List ℕ). a ++ l) (sym (drop-append_seam a e.rest) ∙ ap (drop (length a)) (sym e.whole_is))

-- of three lists, what each adds to the one before
pub seams : (a b c : List ℕ) → Extends a b → Extends b c → drop (length a) b ++ drop (length b) c ≡ drop (length a) c
seams a b c p q =
    sym (drop-append_seam a (drop (length a) b ++ drop (length b) c))
    ∙ ap (drop (length a))
    (sym (append_assoc a (drop (length a) b) (drop (length b) c))
    ∙ ap (λ (l : List ℕ). l ++ drop (length b) c) (sym (behind p)) ∙ sym (behind q))
