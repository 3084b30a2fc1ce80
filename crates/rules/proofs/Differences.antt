-- The numbers of the definition as differences `sub_ℕ n b` of two natural numbers, in which all of the code's sums are sums in ℕ.
-- Assumes nothing.
use mathlib.Core.Path.{◌≡◌, refl, sym, ap, ◌∙◌}
use mathlib.Core.Bool.{true, false}
use mathlib.Core.Logic.{⊎_elim}
use Prim.Native.Nat.{ℕ, zero, suc, ◌+◌, ◌*◌, ◌-◌, ◌/◌, ◌%◌, ◌≤◌, ◌<◌}
use native.Mathlib.Omega.{arith}
use native.Mathlib.Nat.{mul-add, add-mul, mul_assoc, one-mul}
use lib.IntN.{ℤ, pos, negsuc, neg_ℤ, sub_ℕ, ◌+ℤ◌}
use borrow.Author.Tests.{lt-ltb, le-ltb, le-leb, lt-leb}
use Rattle.laws.proofs.Tests.{lt-or-le}
use Rattle.rules.specs.Diffusion.{round16, part, value, white, residual}
use Rattle.rules.specs.Bits.{bit}
use Rattle.rules.specs.Internal.Held.{DotMade}

pub sub-neg : (a b : ℕ) → a < b → sub_ℕ a b ≡ negsuc (b - suc a)
sub-neg a b h = rw (lt-ltb a b h)

pub sub-pos : (a b : ℕ) → b ≤ a → sub_ℕ a b ≡ pos (a - b)
sub-pos a b h = rw (le-ltb a b h)

-- a - b and c - d are one number where a + d and c + b are
pub sub-eq : (a b c d : ℕ) → a + d ≡ c + b → sub_ℕ a b ≡ sub_ℕ c d
sub-eq a b c d e =
    ⊎_elim
    (λ h. sub-neg a b h ∙ ap negsuc (omega arith) ∙ sym (sub-neg c d (omega arith)))
    (λ h. sub-pos a b h ∙ ap pos (omega arith) ∙ sym (sub-pos c d (omega arith)))
    (lt-or-le a b)

-- a sum of differences
pub sub-add : (a b c d : ℕ) → sub_ℕ a b +ℤ sub_ℕ c d ≡ sub_ℕ (a + c) (b + d)
sub-add a b c d =
    ⊎_elim
    (λ h. ⊎_elim
    (λ k. rw (sub-neg a b h, sub-neg c d k) (ap negsuc (omega arith) ∙ sym (sub-neg (a + c) (b + d) (omega arith))))
    (λ k. rw (sub-neg a b h, sub-pos c d k) (sub-eq (c - d) (suc (b - suc a)) (a + c) (b + d) (omega arith)))
    (lt-or-le c d))
    (λ h. ⊎_elim
    (λ k. rw (sub-pos a b h, sub-neg c d k) (sub-eq (a - b) (suc (d - suc c)) (a + c) (b + d) (omega arith)))
    (λ k. rw (sub-pos a b h, sub-pos c d k) (ap pos (omega arith) ∙ sym (sub-pos (a + c) (b + d) (omega arith))))
    (lt-or-le c d))
    (lt-or-le a b)

pub pos-is : (n : ℕ) → pos n ≡ sub_ℕ n 0
pos-is n = sym (sub-pos n 0 (omega arith) ∙ ap pos (omega arith))

pub neg_is : (n : ℕ) → neg_ℤ (pos n) ≡ sub_ℕ 0 n
neg_is zero = sym (sub-pos 0 0 (omega arith))
neg_is (suc n) = sym (sub-neg 0 (suc n) (omega arith) ∙ ap negsuc (omega arith))

round-neg : (m : ℕ) → round16 (neg_ℤ (pos m)) ≡ neg_ℤ (pos ((m + 8) / 16))
round-neg zero = refl
round-neg (suc m) = refl

-- k sixteenths of b - 128, which is below 0 or not
pub part-pos : (k b : ℕ) → 128 ≤ b → part k (sub_ℕ b 128) ≡ sub_ℕ ((k * b + 8) / 16) (8 * k)
unfolding part
part-pos k b h =
    let e : k * b ≡ k * (b - 128) + k * 128 = ap (λ (n : ℕ). k * n) (omega arith) ∙ mul-add k (b - 128) 128 in
    rw (sub-pos b 128 h) (pos-is ((k * (b - 128) + 8) / 16) ∙ sub-eq ((k * (b - 128) + 8) / 16) 0 ((k * b + 8) / 16) (8 * k) (omega arith))

pub part-neg : (k b : ℕ) → b < 128 → part k (sub_ℕ b 128) ≡ sub_ℕ ((k * b + 7) / 16) (8 * k)
unfolding part
part-neg k b h =
    let m = suc (128 - suc b) in
    let e : k * 128 ≡ k * b + k * m = ap (λ (n : ℕ). k * n) (omega arith) ∙ mul-add k b m in
    rw (sub-neg b 128 h) (round-neg (k * m) ∙ neg_is ((k * m + 8) / 16)
    ∙ sub-eq 0 ((k * m + 8) / 16) ((k * b + 7) / 16) (8 * k) (omega arith))

-- both by one quotient
pub part-is : (k b : ℕ) → b ≤ 256 → part k (sub_ℕ b 128) ≡ sub_ℕ (((128 * k + 1) * b + 896) / 2048) (8 * k)
part-is k b h =
    let q = ((128 * k + 1) * b + 896) / 2048 in
    let d : (128 * k + 1) * b ≡ 128 * (k * b) + b = rw (add-mul, mul_assoc, one-mul) in
    ⊎_elim
    (λ l. let e : (k * b + 7) / 16 ≡ q = omega arith in part-neg k b l ∙ ap (λ (n : ℕ). sub_ℕ n (8 * k)) e)
    (λ l. ⊎_elim
    (λ m. let e : (k * b + 8) / 16 ≡ q = omega arith in part-pos k b l ∙ ap (λ (n : ℕ). sub_ℕ n (8 * k)) e)
    (λ m.
    let f : b ≡ 256 = omega arith in
    let g : k * b ≡ k * 256 = ap (λ (n : ℕ). k * n) f in
    let e : (k * b + 8) / 16 ≡ q = omega arith in
    part-pos k b l ∙ ap (λ (n : ℕ). sub_ℕ n (8 * k)) e)
    (lt-or-le b 256))
    (lt-or-le b 128)

-- v - 128 is white from 256 on, and its residual
pub white-yes : (v : ℕ) → 256 ≤ v → white (sub_ℕ v 128) ≡ true
unfolding white
white-yes v h = rw (sub-pos v 128 (omega arith)) (le-leb 128 (v - 128) (omega arith))

pub white-no : (v : ℕ) → v < 256 → white (sub_ℕ v 128) ≡ false
unfolding white
white-no v h =
    ⊎_elim
    (λ k. rw (sub-neg v 128 k) refl)
    (λ k. rw (sub-pos v 128 k) (lt-leb 128 (v - 128) (omega arith)))
    (lt-or-le v 128)

pub residual-white : (v : ℕ) → 256 ≤ v → residual (sub_ℕ v 128) ≡ sub_ℕ (v - 255) 128
unfolding residual
residual-white v h = rw (white-yes v h) (rw (neg_is 255) (sub-add v 128 0 255 ∙ sub-eq (v + 0) (128 + 255) (v - 255) 128 (omega arith)))

pub residual-black : (v : ℕ) → v < 256 → residual (sub_ℕ v 128) ≡ sub_ℕ v 128
unfolding residual
residual-black v h = rw (white-no v h)

-- a dot's value, from its four parts
pub value-is : (g l c a r pl pc pa pr : ℕ)
    → part 7 (sub_ℕ l 128) ≡ sub_ℕ pl 56 → part 1 (sub_ℕ c 128) ≡ sub_ℕ pc 8 → part 5 (sub_ℕ a 128) ≡ sub_ℕ pa 40
    → part 3 (sub_ℕ r 128) ≡ sub_ℕ pr 24
    → value g (sub_ℕ l 128) (sub_ℕ c 128) (sub_ℕ a 128) (sub_ℕ r 128) ≡ sub_ℕ (g + pl + pc + pa + pr) 128
unfolding value
value-is g l c a r pl pc pa pr el ec ea er =
    rw (el, ec, ea, er, pos-is g) (
    ap (λ (z : ℤ). z +ℤ sub_ℕ pc 8 +ℤ sub_ℕ pa 40 +ℤ sub_ℕ pr 24) (sub-add g 0 pl 56) ∙
    ap (λ (z : ℤ). z +ℤ sub_ℕ pa 40 +ℤ sub_ℕ pr 24) (sub-add (g + pl) 56 pc 8) ∙
    ap (λ (z : ℤ). z +ℤ sub_ℕ pr 24) (sub-add (g + pl + pc) 64 pa 40) ∙
    sub-add (g + pl + pc + pa) 104 pr 24)

pub stepped-white : {z : ℤ} (v : ℕ) → z ≡ sub_ℕ v 128 → 256 ≤ v → v ≤ 511 → DotMade z 1 (v - 255)
stepped-white v e h k =
    rw e (record { dot_is = sym (ap bit (white-yes v h)); rest_is = record { is = residual-white v h; small = omega arith } })

pub stepped-black : {z : ℤ} (v : ℕ) → z ≡ sub_ℕ v 128 → v < 256 → DotMade z 0 v
stepped-black v e h =
    rw e (record { dot_is = sym (ap bit (white-no v h)); rest_is = record { is = residual-black v h; small = omega arith } })

pub stepped : {z : ℤ} (v : ℕ) → z ≡ sub_ℕ v 128 → v ≤ 511 → DotMade z (v / 256) (v % 256 + v / 256)
stepped v e h =
    ⊎_elim
    (λ k.
    let s = stepped-black v e k in
    let d : v / 256 ≡ 0 = omega arith in
    let r : v ≡ v % 256 + v / 256 = omega arith in
    record { dot_is = d ∙ s.dot_is; rest_is = record { is = s.rest_is.is ∙ ap (λ (n : ℕ). sub_ℕ n 128) r; small = omega arith } })
    (λ k.
    let s = stepped-white v e k h in
    let d : v / 256 ≡ 1 = omega arith in
    let r : v - 255 ≡ v % 256 + v / 256 = omega arith in
    record { dot_is = d ∙ s.dot_is; rest_is = record { is = s.rest_is.is ∙ ap (λ (n : ℕ). sub_ℕ n 128) r; small = omega arith } })
    (lt-or-le v 256)

-- a black or white sample with no residual around it: its dot, and no residual
value-residual-free : (g : ℕ) → value g (sub_ℕ 128 128) (sub_ℕ 128 128) (sub_ℕ 128 128) (sub_ℕ 128 128) ≡ sub_ℕ (g + 56 + 8 + 40 + 24) 128
value-residual-free g =
    value-is g 128 128 128 128 56 8 40 24 (part-pos 7 128 (omega arith)) (part-pos 1 128 (omega arith)) (part-pos 5 128 (omega arith))
    (part-pos 3 128 (omega arith))

pub stepped-residual-free : (g : ℕ) → g < 256 → g % 255 ≡ 0
    → DotMade (value g (sub_ℕ 128 128) (sub_ℕ 128 128) (sub_ℕ 128 128) (sub_ℕ 128 128)) (g / 128) 128
stepped-residual-free g h e =
    ⊎_elim
    (λ k. let z : g ≡ 0 = omega arith in rw z (stepped-black 128 (value-residual-free 0) (omega arith)))
    (λ k. let z : g ≡ 255 = omega arith in rw z (stepped-white 383 (value-residual-free 255) (omega arith) (omega arith)))
    (lt-or-le g 128)
