-- How many values are black or white, from the first on.
-- Assumes nothing.
use Prim.Native.Nat.{ℕ, zero, suc, ◌%◌, ◌≤◌, ◌<◌}
use mathlib.Core.Path.{◌≡◌, sym, ◌∙◌, subst}
use mathlib.Core.Bool.{true, ◌&&◌}
use mathlib.Core.Logic.{⊎_elim}
use native.Mathlib.Omega.{arith}
use borrow.Author.Tests.{eqb-true, eq-eqb}
use lib.Dec.{eqb}
use Rattle.laws.proofs.Tests.{lt-or-le, if-elim, both_true}
use Rattle.rules.specs.Internal.Row.{plain_front}
use Rattle.rules.proofs.EntryTold.{never}

module _ (f : ℕ → ℕ) where
  pub front-le : (n : ℕ) → plain_front f n ≤ n
  unfolding plain_front
  front-le zero = omega arith
  front-le (suc n) =
      let a = front-le n in
      if-elim (λ (m : ℕ). m ≤ suc n) (eqb (plain_front f n) n && eqb (f n % 255) 0) (suc n) (plain_front f n)
      (λ t. omega arith)
      (λ t. omega arith)

  -- they are
  pub front-plain : (n i : ℕ) → i < plain_front f n → f i % 255 ≡ 0
  unfolding plain_front
  front-plain zero i = λ l. let z : ⊥ = omega arith in absurd z
  front-plain (suc n) i =
      if-elim (λ (m : ℕ). i < m → f i % 255 ≡ 0) (eqb (plain_front f n) n && eqb (f n % 255) 0) (suc n) (plain_front f n)
      (λ t l.
      let b = both_true (eqb (plain_front f n) n) (eqb (f n % 255) 0) t in
      ⊎_elim
      (λ (k : i < n). front-plain n i (subst (λ (m : ℕ). i < m) (sym (eqb-true (plain_front f n) n b.0)) k))
      (λ (k : n ≤ i). let e : n ≡ i = omega arith in subst (λ (j : ℕ). f j % 255 ≡ 0) e (eqb-true (f n % 255) 0 b.1))
      (lt-or-le i n))
      (λ t. front-plain n i)

  -- and no fewer
  pub front-least : (n m : ℕ) → m ≤ n → ((i : ℕ) → i < m → f i % 255 ≡ 0) → m ≤ plain_front f n
  unfolding plain_front
  front-least zero m l h = l
  front-least (suc n) m l h =
      if-elim (λ (k : ℕ). m ≤ k) (eqb (plain_front f n) n && eqb (f n % 255) 0) (suc n) (plain_front f n)
      (λ t. l)
      (λ t. ⊎_elim
      (λ (k : m < suc n). front-least n m (omega arith) h)
      (λ (k : suc n ≤ m).
      let a : plain_front f n ≡ n = omega (arith, front-le n, front-least n n (omega arith) (λ i j. h i (omega arith))) in
      let b : f n % 255 ≡ 0 = h n (omega arith) in
      let c : (eqb (plain_front f n) n && eqb (f n % 255) 0) ≡ true = rw (eq-eqb (plain_front f n) n a, eq-eqb (f n % 255) 0 b) in
      never (sym t ∙ c))
      (lt-or-le m (suc n)))
