-- The low bits of bytes that are or'ed: clear exactly if those of each are.
use Prim.Native.Nat.{ℕ, ◌+◌, ◌-◌, ◌%◌, ◌^◌, ◌≤◌, ◌<◌}
use mathlib.Core.Path.{◌≡◌, refl, sym, ap, ap₂, ◌∙◌}
use mathlib.Core.Bool.{Bool, true, false, ◌&&◌}
use native.Mathlib.Omega.{arith}
use borrow.Author.Tests.{eq-eqb, ne_eqb, eqb-true, eqb-false}
use lib.Bits.{bit_and, bit_or, or_mod, or_lt, or_add_and, and_le_l, and_le_r}
use lib.Dec.{eqb}
use lib.Pow.{split}
use Rattle.image.specs.Rows.{clear_low}
use Rattle.image.proofs.MaskClears.{mask_low}

-- a sum without its second part
without : (p r b : ℕ) → p + r ≡ b → r ≡ 0 → p ≡ b
without p r b e z = omega arith

nothing : (p r b : ℕ) → p + r ≡ b → p ≡ b → r ≡ 0
nothing p r b e z = omega arith

remainder : (k b : ℕ) → eqb (clear_low k b) b ≡ eqb (b % 2 ^ k) 0
remainder k b = go (eqb (b % 2 ^ k) 0) refl
  where
    go : (t : Bool) → eqb (b % 2 ^ k) 0 ≡ t → eqb (clear_low k b) b ≡ t
    go true e = eq-eqb _ _ (without (clear_low k b) (b % 2 ^ k) b (split b k) (eqb-true _ _ e))
    go false e = ne_eqb _ _ (λ d. eqb-false _ _ e (nothing (clear_low k b) (b % 2 ^ k) b (split b k) d))

neither-set : (x y : ℕ) → eqb (bit_or x y) 0 ≡ (eqb x 0 && eqb y 0)
neither-set x y = go (eqb x 0) (eqb y 0) refl refl
  where
    go : (s t : Bool) → eqb x 0 ≡ s → eqb y 0 ≡ t → eqb (bit_or x y) 0 ≡ (s && t)
    go true true p q =
        let i = eqb-true x 0 p in let j = eqb-true y 0 q in let a = or_add_and x y in eq-eqb (bit_or x y) 0 (omega arith)
    go true false p q =
        let a = or_add_and x y in let b = and_le_l x y in ne_eqb (bit_or x y) 0 (λ d. eqb-false y 0 q (omega arith))
    go false t p q =
        let a = or_add_and x y in let b = and_le_r x y in ne_eqb (bit_or x y) 0 (λ d. eqb-false x 0 p (omega arith))

-- whether the low k bits of a byte are clear
pub record Low (k b : ℕ) (t : Bool) : Type 0 where
  pub small : b < 256
  pub told : eqb (clear_low k b) b ≡ t

pub ored : {k a b : ℕ} {s t : Bool} → Low k a s → Low k b t → Low k (bit_or a b) (s && t)
ored {k} {a} {b} p q =
    record {
      small = or_lt 8 a b p.small q.small;
      told =
          remainder k (bit_or a b)
          ∙ ap (λ (n : ℕ). eqb n 0) (or_mod a b k)
          ∙ neither-set (a % 2 ^ k) (b % 2 ^ k)
          ∙ ap₂ ◌&&◌ (sym (remainder k a) ∙ p.told) (sym (remainder k b) ∙ q.told);
    }

-- as the mask tells it
pub masked : {k b : ℕ} {t : Bool} → k ≤ 8 → Low k b t → eqb (bit_and b (256 - 2 ^ k)) b ≡ t
masked {k} {b} h p = ap (λ (n : ℕ). eqb n b) (mask_low k b h p.small) ∙ p.told
