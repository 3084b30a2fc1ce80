-- A list whose front is overlaid with a function's values.
-- Assumes nothing.
use Prim.Native.Nat.{ℕ, suc, ◌+◌, ◌-◌, ◌≤◌, ◌<◌}
use mathlib.Core.Path.{◌≡◌, refl, sym, ap, ap₂, ◌∙◌}
use mathlib.Core.List.{List, [], ◌∷◌, ◌++◌, append-nil, append_assoc}
use native.Mathlib.Numerals.{add-one}
use native.Mathlib.Omega.{arith}
use borrow.Rule.Slice.PartMut.{put_mid, post_of, Post-is}
use lib.ListN.{length, get_or, drop, set, length-append, length-drop}
use lib.Seq.{drop-cons, drop-length, drop-drop, drop-append-add, take_at, append_snoc, set_at}
use Rattle.rules.specs.Bits.{upto}
use Rattle.rules.proofs.UptoList.{length-upto, upto-ext, upto_add}

abbrev pub overlaid : ℕ → (ℕ → ℕ) → List ℕ → List ℕ
overlaid n f out = upto n f ++ drop n out

module _ (f : ℕ → ℕ) (out : List ℕ) where
  pub overlaid-none : out ≡ overlaid 0 f out
  unfolding upto
  overlaid-none = refl

  pub overlaid-length : (n : ℕ) → n ≤ length out → length (overlaid n f out) ≡ length out
  overlaid-length n h = length-append (upto n f) (drop n out) ∙ simp (length-upto, length-drop) (omega arith)

  -- one value more
  pub overlaid-next : (n v : ℕ) → n < length out → v ≡ f n → set (overlaid n f out) n v ≡ overlaid (n + 1) f out
  unfolding upto
  overlaid-next n v h e =
      ap (λ (r : List ℕ). set (upto n f ++ r) n v) (drop-cons out n 0 h)
      ∙ set_at (upto n f) (get_or out n 0) (drop (suc n) out) v n (length-upto f n)
      ∙ sym (append_snoc (upto n f) v (drop (suc n) out))
      ∙ ap (λ (b : ℕ). (upto n f ++ (b ∷ [])) ++ drop (suc n) out) e
      ∙ ap (λ (k : ℕ). overlaid k f out) (sym (add-one n))

  -- the whole list
  pub overlaid-all : (n : ℕ) → n ≡ length out → overlaid n f out ≡ upto n f
  overlaid-all n e =
      ap (λ (k : ℕ). upto n f ++ drop k out) e ∙ ap (λ (r : List ℕ). upto n f ++ r) (drop-length out) ∙ append-nil (upto n f)

  -- k values more, put in the place of as many elements
  pub overlaid-put : (n k : ℕ) (g : ℕ → ℕ) → ((i : ℕ) → i < k → g i ≡ f (n + i))
      → put_mid n (n + k - n) (overlaid n f out) (upto k g) ≡ overlaid (n + k) f out
  overlaid-put n k g e =
      let front = upto n f in
      let o = overlaid n f out in
      let behind : post_of n (n + k - n) o ≡ drop (n + k) out =
      Post-is n (n + k) o (omega arith)
      ∙ ap (λ (m : ℕ). drop (m + k) o) (sym (length-upto f n))
      ∙ drop-append-add front (drop n out) k
      ∙ drop-drop k n out in
      ap (λ (l : List ℕ). l ++ (upto k g ++ post_of n (n + k - n) o)) (take_at front (drop n out) n (length-upto f n))
      ∙ ap₂ (λ (l m : List ℕ). front ++ (l ++ m)) (upto-ext g (λ i. f (n + i)) k e) behind
      ∙ sym (append_assoc front (upto k (λ i. f (n + i))) (drop (n + k) out))
      ∙ ap (λ (l : List ℕ). l ++ drop (n + k) out) (sym (upto_add f n k))
