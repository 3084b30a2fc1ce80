-- The bits of a byte: cleared low bits, and inverted bits.
use Prim.Native.Nat.{ℕ, zero, suc, ◌+◌, ◌-◌, ◌*◌, ◌/◌, ◌%◌, ◌^◌, ◌≤◌, ◌<◌}
use mathlib.Core.Path.{◌≡◌, ap, sym, ◌∙◌}
use native.Mathlib.Nat.{mul-mod_left, mul_assoc, pow-suc}
use native.Mathlib.Omega.{arith}
use lib.Pow.{pow-add, shl-shr, shr-shr}
use Rattle.image.specs.Rows.{clear_low}

-- above the cleared bits a byte is as it was
pub clear_above : (bits k b : ℕ) → bits ≤ k → clear_low bits b / 2 ^ k ≡ b / 2 ^ k
clear_above bits k b h =
    let e : bits + (k - bits) ≡ k = omega arith in
    ap (λ (n : ℕ). clear_low bits b / 2 ^ n) (sym e)
    ∙ sym (shr-shr (clear_low bits b) bits (k - bits))
    ∙ ap (λ (n : ℕ). n / 2 ^ (k - bits)) (shl-shr (b / 2 ^ bits) bits)
    ∙ shr-shr b bits (k - bits)
    ∙ ap (λ (n : ℕ). b / 2 ^ n) e

-- the cleared bits are 0
pub clear-below : (bits k b : ℕ) → k < bits → clear_low bits b / 2 ^ k % 2 ≡ 0
clear-below bits k b h =
    let q = b / 2 ^ bits in
    let e : bits ≡ suc (bits - suc k) + k = omega arith in
    let p : clear_low bits b ≡ q * 2 ^ suc (bits - suc k) * 2 ^ k =
    ap (λ (n : ℕ). q * 2 ^ n) e ∙ ap (λ (n : ℕ). q * n) (pow-add 2 (suc (bits - suc k)) k)
    ∙ sym (mul_assoc q (2 ^ suc (bits - suc k)) (2 ^ k)) in
    ap (λ (n : ℕ). n / 2 ^ k % 2) p
    ∙ ap (λ (n : ℕ). n % 2) (shl-shr (q * 2 ^ suc (bits - suc k)) k)
    ∙ ap (λ (n : ℕ). q * n % 2) (pow-suc 2 (bits - suc k))
    ∙ ap (λ (n : ℕ). n % 2) (sym (mul_assoc q (2 ^ (bits - suc k)) 2))
    ∙ mul-mod_left (q * 2 ^ (bits - suc k)) 2

-- what holds of each number below eight
below-eight : (P : ℕ → Type 0) → P 0 → P 1 → P 2 → P 3 → P 4 → P 5 → P 6 → P 7 → (k : ℕ) → k < 8 → P k
below-eight P a b c d e f g i zero h = a
below-eight P a b c d e f g i (suc zero) h = b
below-eight P a b c d e f g i (suc (suc zero)) h = c
below-eight P a b c d e f g i (suc (suc (suc zero))) h = d
below-eight P a b c d e f g i (suc (suc (suc (suc zero)))) h = e
below-eight P a b c d e f g i (suc (suc (suc (suc (suc zero))))) h = f
below-eight P a b c d e f g i (suc (suc (suc (suc (suc (suc zero)))))) h = g
below-eight P a b c d e f g i (suc (suc (suc (suc (suc (suc (suc zero))))))) h = i
below-eight P a b c d e f g i (suc (suc (suc (suc (suc (suc (suc (suc k)))))))) h = let z : ⊥ = omega arith in absurd z

-- each bit of an inverted byte is the other one
pub invert-bit : (k b : ℕ) → k < 8 → b < 256 → (255 - b) / 2 ^ k % 2 ≡ 1 - b / 2 ^ k % 2
invert-bit k b h l =
    below-eight (λ (k : ℕ). (255 - b) / 2 ^ k % 2 ≡ 1 - b / 2 ^ k % 2)
    (omega arith) (omega arith) (omega arith) (omega arith) (omega arith) (omega arith) (omega arith) (omega arith) k h

-- inverting twice only clears
pub invert-twice : (bits b : ℕ) → bits < 8 → b < 256 → clear_low bits (255 - clear_low bits (255 - b)) ≡ clear_low bits b
invert-twice bits b h l =
    below-eight (λ (bits : ℕ). clear_low bits (255 - clear_low bits (255 - b)) ≡ clear_low bits b)
    (omega arith) (omega arith) (omega arith) (omega arith) (omega arith) (omega arith) (omega arith) (omega arith) bits h
