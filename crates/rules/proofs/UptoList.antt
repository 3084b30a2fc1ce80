-- Lists of a function's values.
-- Assumes nothing.
use Prim.Native.Nat.{ℕ, zero, suc, ◌+◌, ◌<◌}
use mathlib.Core.Path.{◌≡◌, refl, sym, ap, ◌∙◌}
use mathlib.Core.Bool.{Bool, true, false}
use mathlib.Core.List.{List, [], ◌∷◌, ◌++◌, append_assoc, append-nil}
use native.Mathlib.Nat.{add-zero, add-suc}
use native.Mathlib.Numerals.{add-one}
use native.Mathlib.Omega.{arith}
use borrow.Author.Tests.{ltb-true, ltb-false}
use lib.Dec.{ltb}
use lib.ListN.{length, get_or, take, set, length-append, get_or-append}
use lib.Seq.{get_or_at, take-suc-set}
use Rattle.rules.specs.Bits.{upto}

module _ {A : Type 0} (f : ℕ → A) where
  pub length-upto : (n : ℕ) → length (upto n f) ≡ n
  unfolding upto
  length-upto zero = refl
  length-upto (suc n) = length-append (upto n f) (f n ∷ []) ∙ ap (λ (m : ℕ). m + 1) (length-upto n) ∙ add-one n

  pub upto-ext : (g : ℕ → A) (n : ℕ) → ((i : ℕ) → i < n → f i ≡ g i) → upto n f ≡ upto n g
  unfolding upto
  upto-ext g zero h = refl
  upto-ext g (suc n) h =
      let a = upto-ext g n (λ i l. h i (omega arith)) in
      let b = h n (omega arith) in
      cc

  pub upto_add : (a n : ℕ) → upto (a + n) f ≡ upto a f ++ upto n (λ i. f (a + i))
  unfolding upto
  upto_add a zero = rw add-zero (sym (append-nil (upto a f)))
  upto_add a (suc n) = rw (add-suc, upto_add a n) (append_assoc (upto a f) (upto n (λ i. f (a + i))) (f (a + n) ∷ []))

  pub upto-at : (d : A) (n j : ℕ) → j < n → get_or (upto n f) j d ≡ f j
  unfolding upto
  upto-at d zero j l = let z : ⊥ = omega arith in absurd z
  upto-at d (suc n) j l = go (ltb j n) refl (upto-at d n j)
    where
      go : (t : Bool) → ltb j n ≡ t → (j < n → get_or (upto n f) j d ≡ f j) → get_or (upto n f ++ (f n ∷ [])) j d ≡ f j
      go true e ih =
          let h = ltb-true j n e in
          get_or-append (upto n f) (f n ∷ []) d j (omega (arith, length-upto n)) ∙ ih h
      go false e ih =
          let h : j ≡ n = omega (arith, ltb-false j n e) in
          get_or_at (upto n f) (f n) [] d j (length-upto n ∙ sym h) ∙ ap f (sym h)

-- a list that is filled with the values, one after the other
pub take_more : (t : List ℕ) (i v : ℕ) (f : ℕ → ℕ) → i < length t → take i t ≡ upto i f → v ≡ f i
    → take (i + 1) (set t i v) ≡ upto (i + 1) f
unfolding upto
take_more t i v f h e k = rw (add-one i, take-suc-set t i v h, e, k)
