-- Eight dots, the highest bits of bytes, brought into one byte by a product.
-- Assumes nothing.
use Prim.Native.Nat.{ℕ, zero, suc, ◌+◌, ◌-◌, ◌*◌, ◌/◌, ◌%◌, ◌^◌, ◌≤◌, ◌<◌}
use mathlib.Core.Path.{◌≡◌, refl, sym, ap, ◌∙◌}
use mathlib.Core.Bool.{Bool, true, ◌&&◌}
use mathlib.Core.Logic.{⊎_elim}
use native.Mathlib.Numerals.{add-one}
use native.Mathlib.Omega.{arith}
use lib.Dec.{eqb}
use borrow.Author.Tests.{eqb-true}
use Rattle.laws.proofs.Tests.{lt-or-le, both_true}
use Rattle.rules.specs.Bits.{appended, digits}
use Rattle.rules.specs.Internal.Words.{bytes, Below}
use Rattle.rules.proofs.DigitsAppended.{appended-lt, digits-high}
use Rattle.rules.proofs.Words.{bytes-ext}

-- what `gathered` computes
abbrev gather : ℕ → ℕ
gather z = (z % 0x100000000 + z / 0x1000000000) * 0x8040201 / 0x8000000 % 256

-- binary digit i of the byte b, from the highest on
abbrev digit : ℕ → ℕ → ℕ
digit b i = b / 2 ^ (7 - i) % 2

digit-is : (f : ℕ → ℕ) → Below 2 f → (i : ℕ) → i < 8 → digit (digits f 8) i ≡ f i
unfolding appended
digit-is f h i l =
    let e : i + 1 + (7 - i) ≡ 8 = omega arith in
    let p : digits f (i + 1) ≡ digits f i * 2 + f i = ap (digits f) (add-one i) in
    let q = h i in
    ap (λ (n : ℕ). digits f n / 2 ^ (7 - i) % 2) (sym e)
    ∙ ap (λ (n : ℕ). n % 2) (digits-high f (λ j. let a = h j in omega arith) (i + 1) (7 - i))
    ∙ omega arith

-- the bytes below n are gathered from their digits
unfoldable gathers : ℕ → Bool
gathers zero = true
gathers (suc n) = eqb (gather (bytes (digit n) 8 * 128)) n && gathers n

-- the one computed test
all-gather : gathers 256 ≡ true
unfolding gathers bytes
all-gather = refl

gather-below : (n : ℕ) → gathers n ≡ true → (b : ℕ) → b < n → gather (bytes (digit b) 8 * 128) ≡ b
unfolding gathers
gather-below zero h b l = elim l [ ]
gather-below (suc n) h b l =
    let k = both_true (eqb (gather (bytes (digit n) 8 * 128)) n) (gathers n) h in
    ⊎_elim
    (λ (m : b < n). gather-below n k.1 b m)
    (λ (m : n ≤ b). let e : b ≡ n = omega arith in rw e (eqb-true (gather (bytes (digit n) 8 * 128)) n k.0))
    (lt-or-le b n)

pub gather-is : (f : ℕ → ℕ) → Below 2 f → gather (bytes f 8 * 128) ≡ digits f 8
gather-is f h =
    ap (λ (n : ℕ). gather (n * 128)) (sym (bytes-ext (digit (digits f 8)) f 8 (digit-is f h)))
    ∙ gather-below 256 all-gather (digits f 8) (appended-lt 0 f (λ i. let a = h i in omega arith) 0 8 (omega arith))
