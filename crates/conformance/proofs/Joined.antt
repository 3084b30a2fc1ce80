-- Lists of one length that stand end to end: each is found again.
use Prim.Native.Nat.{ℕ, zero, suc, ◌+◌, ◌*◌, ◌≤◌, ◌<◌}
use mathlib.Core.Path.{◌≡◌, refl, sym, ap, ◌∙◌}
use mathlib.Core.Bool.{Bool, true, false}
use mathlib.Core.List.{List, ◌++◌}
use native.Mathlib.Omega.{arith}
use borrow.Author.Tests.{ltb-true, ltb-false}
use lib.Dec.{ltb}
use lib.ListN.{length, take, drop, length-append, length-drop}
use lib.Seq.{take-append-le, drop-append-le, drop_at, take_all}
use Rattle.laws.proofs.Products.{up_to}

module _ (size most : ℕ) (piece joined : ℕ → List ℕ) (long : (k : ℕ) → k ≤ most → length (joined k) ≡ k * size)
    (next : (k : ℕ) → k < most → joined (suc k) ≡ joined k ++ piece k) where
  sized : (k : ℕ) → k < most → length (piece k) ≡ size
  sized k l =
      let p = long k (omega arith) in
      let q = long (suc k) (omega arith) in
      let e : suc k * size ≡ k * size + size = omega arith in
      omega (arith, ap length (next k l), length-append (joined k) (piece k))

  pub piece_back : (n k : ℕ) → n ≤ most → k < n → take size (drop (k * size) (joined n)) ≡ piece k
  piece_back zero k m l = let z : ⊥ = omega arith in absurd z
  piece_back (suc n) k m l = go (ltb k n) refl (piece_back n k (omega arith))
    where
      front : length (joined n) ≡ n * size
      front = long n (omega arith)

      go : (t : Bool) → ltb k n ≡ t → (k < n → take size (drop (k * size) (joined n)) ≡ piece k)
          → take size (drop (k * size) (joined (suc n))) ≡ piece k
      go true e ih =
          let h = ltb-true k n e in
          let p = up_to size k n h in
          let f = front in
          ap (λ (s : List ℕ). take size (drop (k * size) s)) (next n m)
          ∙ ap (take size) (drop-append-le (k * size) (joined n) (piece n) (omega arith))
          ∙ take-append-le size (drop (k * size) (joined n)) (piece n) (rw length-drop (omega arith))
          ∙ ih h
      go false e ih =
          let h : k ≡ n = omega (arith, ltb-false k n e) in
          ap (λ (s : List ℕ). take size (drop (k * size) s)) (next n m)
          ∙ ap (λ (i : ℕ). take size (drop (i * size) (joined n ++ piece n))) h
          ∙ ap (take size) (drop_at (joined n) (piece n) (n * size) front)
          ∙ take_all size (piece n) (omega (arith, sized n m))
          ∙ ap piece (sym h)
