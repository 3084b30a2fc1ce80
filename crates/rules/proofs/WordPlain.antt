-- Eight samples that are black and white alone, told at once.
-- Assumes nothing.
use Prim.Native.Nat.{ℕ, ◌*◌, ◌%◌, ◌<◌}
use mathlib.Core.Path.{◌≡◌, refl, sym, ap, ◌∙◌}
use mathlib.Core.Bool.{true}
use native.Mathlib.Omega.{arith}
use lib.Bits.{bit_and, and_mask}
use lib.Dec.{eqb}
use borrow.Author.Tests.{eqb-true, eq-eqb}
use Rattle.rules.specs.Internal.Words.{bytes, Below, TellsPlain}
use Rattle.rules.proofs.WordCompared.{ones}
use Rattle.rules.proofs.Words.{bytes-ext, bytes_same, bytes-times, bytes-and}

module _ (f : ℕ → ℕ) (small : Below 256 f) where
  ones-are : ones ≡ bytes (λ i. 1) 8
  unfolding bytes
  ones-are = refl

  lows-are : bit_and (bytes f 8) ones ≡ bytes (λ i. f i % 2) 8
  lows-are =
      ap (bit_and (bytes f 8)) ones-are
      ∙ bytes-and f (λ i. 1) 8 small (λ i. omega arith)
      ∙ bytes-ext (λ i. bit_and (f i) 1) (λ i. f i % 2) 8 (λ i l. and_mask (f i) 1)

  whites-are : bit_and (bytes f 8) ones * 255 ≡ bytes (λ i. f i % 2 * 255) 8
  whites-are = ap (λ (n : ℕ). n * 255) lows-are ∙ sym (bytes-times 255 (λ i. f i % 2) 8)

  white-small : Below 256 (λ i. f i % 2 * 255)
  white-small i = omega arith

  plain-if : eqb (bit_and (bytes f 8) ones * 255) (bytes f 8) ≡ true → (i : ℕ) → i < 8 → f i % 255 ≡ 0
  plain-if e i l =
      let s : f i % 2 * 255 ≡ f i = bytes_same (λ i. f i % 2 * 255) f 8 white-small small (sym whites-are ∙ eqb-true _ _ e) i l in
      omega arith

  plain_then : ((i : ℕ) → i < 8 → f i % 255 ≡ 0) → eqb (bit_and (bytes f 8) ones * 255) (bytes f 8) ≡ true
  plain_then h =
      eq-eqb _ _
      (whites-are ∙ bytes-ext (λ i. f i % 2 * 255) f 8 (λ i l. let a = h i l in let b = small i in omega arith))

pub tells-plain : (w : ℕ) → TellsPlain w (eqb (bit_and w ones * 255) w)
tells-plain w f small e = rw e (plain-if f small, plain_then f small)
