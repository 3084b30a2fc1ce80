-- The tests of a pair to be written, one by one.
use Prim.Native.Nat.{ℕ, ◌≤◌}
use mathlib.Core.Path.{◌≡◌, refl}
use mathlib.Core.Bool.{Bool, true, false, ◌&&◌}
use native.Mathlib.Omega.{arith}
use lib.Dec.{leb}
use lib.ListN.{length}
use borrow.Author.Tests.{leb-true}
use Rattle.error.specs.Choice.{if}
use Rattle.error.specs.Answer.{Answer, gives, refuses}
use Rattle.laws.proofs.Tests.{zero_one}
use Rattle.ext.specs.Kinds.{Pair}
use Rattle.ext.specs.Classes.{is_char, is_alpha_digit, in_class}
use Rattle.ext_write.specs.Write.{check_pair}

-- a length from 1 to a most
abbrev pub in_range : ℕ → ℕ → Bool
in_range most n = leb 1 n && leb n most

-- A check either gives nothing more, or refuses with a number and offset 0.
abbrev pub Verdict : Answer (Unit {0}) → Type 0
Verdict (gives u) = Unit {0}
Verdict (refuses code offset) = (code ≡ 0 → ⊥) × (offset ≡ 0)

verdict-if : (b : Bool) (x : Answer (Unit {0})) (code : ℕ) → (code ≡ 0 → ⊥) → Verdict x → Verdict (if b x (refuses code 0))
verdict-if true x code n h = h
verdict-if false x code n h = (n, refl)

pub verdict : (strict : Bool) (p : Pair) → Verdict (check_pair strict p)
unfolding check_pair
verdict strict p =
    verdict-if (in_range 7 (length p.identifier)) _ 11 (λ e. omega arith)
    (verdict-if (in_class strict is_char p.identifier) _ 14 (λ e. omega arith)
    (verdict-if (in_range 15 (length p.value)) _ 12 (λ e. omega arith)
    (verdict-if (in_class strict is_alpha_digit p.value) (gives tt) 15 (λ e. omega arith) tt)))

-- what a pair that is accepted has passed
pub record PairPassed (strict : Bool) (p : Pair) : Type 0 where
  pub identifier_some : 1 ≤ length p.identifier
  pub identifier_most : length p.identifier ≤ 7
  pub identifier_class : in_class strict is_char p.identifier ≡ true
  pub value_some : 1 ≤ length p.value
  pub value_most : length p.value ≤ 15
  pub value_class : in_class strict is_alpha_digit p.value ≡ true

if-gives : (b : Bool) (x : Answer (Unit {0})) (code : ℕ) → if b x (refuses code 0) ≡ gives tt → (b ≡ true) × (x ≡ gives tt)
if-gives true x code e = (refl, e)
if-gives false x code e = zero_one (cc)

range-both : (most n : ℕ) → in_range most n ≡ true → (1 ≤ n) × (n ≤ most)
range-both most n e = by_tests (leb 1 n) (leb n most) refl refl e
  where
    by_tests : (a b : Bool) → leb 1 n ≡ a → leb n most ≡ b → a && b ≡ true → (1 ≤ n) × (n ≤ most)
    by_tests true true f g h = (leb-true 1 n f, leb-true n most g)
    by_tests true false f g h = zero_one (cc)
    by_tests false b f g h = zero_one (cc)

pub pair-passed : (strict : Bool) (p : Pair) → check_pair strict p ≡ gives tt → PairPassed strict p
unfolding check_pair
pair-passed strict p e =
    let i = if-gives (in_range 7 (length p.identifier)) _ 11 e in
    let k = if-gives (in_class strict is_char p.identifier) _ 14 i.1 in
    let v = if-gives (in_range 15 (length p.value)) _ 12 k.1 in
    let w = if-gives (in_class strict is_alpha_digit p.value) _ 15 v.1 in
    let a = range-both 7 (length p.identifier) i.0 in
    let b = range-both 15 (length p.value) v.0 in
    record {
      identifier_some = a.0;
      identifier_most = a.1;
      identifier_class = k.0;
      value_some = b.0;
      value_most = b.1;
      value_class = w.0;
    }
