-- Pairs lent as records: what runs over the records come to, by their lengths, two each.
use Prim.Native.Nat.{ℕ, zero, suc, ◌+◌, ◌*◌, ◌<◌}
use mathlib.Core.Path.{◌≡◌, ◌∙◌, sym, ap, refl}
use mathlib.Core.Bool.{Bool, true, false}
use mathlib.Core.List.{List, [], ◌∷◌}
use native.Mathlib.Nat.{pos_of_ne-zero}
use native.Mathlib.Omega.{arith}
use lib.Dec.{eqb}
use lib.ListN.{length, get_or}
use borrow.Author.Tests.{eq-eqb, ne_eqb, eqb-true, eqb-false}
use Rattle.error.specs.Answer.{map}
use Rattle.laws.proofs.Tests.{if-false}
use Rattle.ext_write.specs.Write.{flattened, lent_bytes}
use Rattle.ext_write.specs.Internal.Steps.{Checking, check_start, check_pairs, pairs_length}
use Rattle.ext_write.specs.declared.Parameter.{Parameter}
use Rattle.ext_write.proofs.CheckRun.{pairs-31, pairs-23, pairs_first, pairs-size}

pub flat-long : (ps : List Parameter) → length (flattened ps) ≡ length ps * 2
flat-long [] = refl
flat-long (p ∷ ps) =
    let e = flat-long ps in
    let f : length (flattened (p ∷ ps)) ≡ suc (suc (length (flattened ps))) = refl in
    let g : length (p ∷ ps) ≡ suc (length ps) = refl in
    omega arith

-- record j's two lengths
pub flat-at : (ps : List Parameter) (j : ℕ) (d : Parameter) → j < length ps
    → (get_or (flattened ps) (j * 2) 0 ≡ (get_or ps j d).identifier_len) × (get_or (flattened ps) (j * 2 + 1) 0 ≡ (get_or ps j d).value_len)
flat-at [] j d h = absurd (omega arith)
flat-at (p ∷ ps) zero d h = (refl, refl)
flat-at (p ∷ ps) (suc j) d h =
    let e : suc j * 2 ≡ suc (suc (j * 2)) = omega arith in
    let f : suc j * 2 + 1 ≡ suc (suc (j * 2 + 1)) = omega arith in
    let g = flat-at ps j d (omega arith) in
    (rw e g.0, rw f g.1)

-- what the end of a run of checks says
module _ (strict : Bool) (text lengths : List ℕ) (s : Checking) (q : s ≡ check_pairs strict text lengths check_start) where
  pub pairs-found : pairs_length (length text) (length lengths) s ≡ map length (lent_bytes strict 3 text lengths)
  pairs-found = by-at (eqb s.at (length text)) refl
    where
      by_code : s.at ≡ length text → 0 < length lengths → (b : Bool) → eqb s.code 0 ≡ b
          → pairs_length (length text) (length lengths) s ≡ map length (lent_bytes strict 3 text lengths)
      by_code e n true t =
          rw (eq-eqb _ _ e, ne_eqb (length lengths) 0 (λ z. omega arith), t) (sym (pairs-size strict text lengths s q e n (eqb-true _ _ t)))
      by_code e n false t =
          rw (eq-eqb _ _ e, ne_eqb (length lengths) 0 (λ z. omega arith), t)
          (sym (ap (map length) (pairs_first strict text lengths s q e n (eqb-false _ _ t))))

      by_number : s.at ≡ length text → (b : Bool) → eqb (length lengths) 0 ≡ b
          → pairs_length (length text) (length lengths) s ≡ map length (lent_bytes strict 3 text lengths)
      by_number e true t = rw (eq-eqb _ _ e, t) (sym (ap (map length) (pairs-23 strict text lengths s q e (eqb-true _ _ t))))
      by_number e false t = by_code e (pos_of_ne-zero (eqb-false (length lengths) 0 t)) (eqb s.code 0) refl

      by-at : (b : Bool) → eqb s.at (length text) ≡ b
          → pairs_length (length text) (length lengths) s ≡ map length (lent_bytes strict 3 text lengths)
      by-at true t = by_number (eqb-true _ _ t) (eqb (length lengths) 0) refl
      by-at false t =
          if-false _ _ _ t ∙ sym (ap (map length) (pairs-31 strict text lengths s q (eqb-false _ _ t)))
