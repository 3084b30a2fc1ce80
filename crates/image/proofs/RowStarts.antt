-- Where bytes of a row start.
use Rattle.std.proofs.Common.{Option, Some, None}
use Prim.Native.Nat.{ℕ, ◌+◌, ◌*◌, ◌/◌, ◌≤◌, ◌<◌}
use mathlib.Core.Path.{◌≡◌, refl, sym, ◌∙◌}
use mathlib.Core.Bool.{Bool, true, false}
use native.Mathlib.Nat.{mul-zero, le-div_iff_mul-le, div-lt_iff_lt-mul}
use native.Mathlib.Omega.{arith}
use borrow.Author.Tests.{leb-true, leb-false, le-leb, lt-leb}
use lib.Dec.{leb}
use Rattle.error.specs.Choice.{if}
use Rattle.laws.proofs.Tests.{zero_one}
use Rattle.image.specs.Internal.Parts.{row_start}

-- a product that may pass the machine's numbers, compared by a quotient
pub within_none : (a most : ℕ) → leb (a * 0) most ≡ true
within_none a most = le-leb (a * 0) most (rw mul-zero (omega arith))

by-quotient : (a b most : ℕ) → 0 < b → (t : Bool) → leb a (most / b) ≡ t → leb (a * b) most ≡ t
by-quotient a b most h true e = le-leb (a * b) most ((le-div_iff_mul-le h).0 (leb-true a (most / b) e))
by-quotient a b most h false e = lt-leb (a * b) most ((div-lt_iff_lt-mul h).0 (leb-false a (most / b) e))

pub within-some : (a b most : ℕ) → 0 < b → leb a (most / b) ≡ leb (a * b) most
within-some a b most h = sym (by-quotient a b most h (leb a (most / b)) refl)

pub record Started (n s y k a : ℕ) : Type 0 where
  pub place : a ≡ y * s
  pub room : y * s + k ≤ n

module _ (n s y k : ℕ) where
  pub starts : y * s + k ≤ n → row_start n s y k ≡ Some (y * s)
  starts h = rw (le-leb (y * s + k) n h)

  pub misses : n < y * s + k → row_start n s y k ≡ None
  misses h = rw (lt-leb (y * s + k) n h)

  by-start : (a : ℕ) (t : Bool) → leb (y * s + k) n ≡ t → if t (Some (y * s)) None ≡ Some a → Started n s y k a
  by-start a true e p = record { place = cc; room = leb-true (y * s + k) n e }
  by-start a false e p = zero_one (cc)

  pub started : (r : Option ℕ) (a : ℕ) → r ≡ row_start n s y k → r ≡ Some a → Started n s y k a
  started r a p q = by-start a (leb (y * s + k) n) refl (sym p ∙ q)

  by-miss : (t : Bool) → leb (y * s + k) n ≡ t → if t (Some (y * s)) None ≡ None → n < y * s + k
  by-miss true e p = zero_one (cc)
  by-miss false e p = leb-false (y * s + k) n e

  pub missed : (r : Option ℕ) → r ≡ row_start n s y k → r ≡ None → n < y * s + k
  missed r p q = by-miss (leb (y * s + k) n) refl (sym p ∙ q)
