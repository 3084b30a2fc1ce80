-- Octets that were written are read back.
use Prim.Native.Nat.{ℕ, suc, ◌+◌, ◌%◌, ◌≤◌, ◌<◌}
use mathlib.Core.Path.{◌≡◌, ◌∙◌, ap, refl}
use mathlib.Core.Bool.{Bool, true, false}
use mathlib.Core.List.{List, [], ◌∷◌, ◌++◌}
use native.Mathlib.Nat.{zero-add}
use native.Mathlib.Omega.{arith}
use lib.Dec.{ltb}
use lib.ListN.{length}
use borrow.Author.Tests.{lt-ltb, le-ltb, lt-leb}
use Rattle.error.specs.Choice.{if}
use Rattle.error.specs.Answer.{gives, refuses, map}
use Rattle.ext.specs.Read.{read_octets}
use Rattle.ext_write.specs.Internal.Steps.{Small, continued}

module _ (τ : List ℕ) (start at : ℕ) (below : at < start + 4096) (b : ℕ) where
  octet-in : read_octets (b ∷ τ) start at
      ≡ elim (ltb b 128) [ true ↦ gives (b ∷ [], at + 1) | false ↦ map (λ r. (b % 128 ∷ r.0, r.1)) (read_octets τ start (at + 1)) ]
  unfolding read_octets
  octet-in =
      ap
      (λ (t : Bool). elim t [
        | true ↦ refuses 10 at
        | false ↦ elim (ltb b 128) [
          | true ↦ gives (b ∷ [], at + 1)
          | false ↦ map (λ r. (b % 128 ∷ r.0, r.1))
              (read_octets τ start (at + 1))
        ]
      ])
      (lt-leb (start + 4096) at below)

  octet-last : b < 128 → read_octets (b ∷ τ) start at ≡ gives (b ∷ [], at + 1)
  octet-last h =
      octet-in
      ∙ ap
      (λ (t : Bool). elim t [ true ↦ gives (b ∷ [], at + 1) | false ↦ map (λ r. (b % 128 ∷ r.0, r.1)) (read_octets τ start (at + 1)) ])
      (lt-ltb b 128 h)

  octet-more : 128 ≤ b → read_octets (b ∷ τ) start at ≡ map (λ r. (b % 128 ∷ r.0, r.1)) (read_octets τ start (at + 1))
  octet-more h =
      octet-in
      ∙ ap
      (λ (t : Bool). elim t [ true ↦ gives (b ∷ [], at + 1) | false ↦ map (λ r. (b % 128 ∷ r.0, r.1)) (read_octets τ start (at + 1)) ])
      (le-ltb b 128 h)

pub octets-back : (os τ : List ℕ) (start at : ℕ) → 0 < length os → Small os → at + length os ≤ start + 4096
    → read_octets (continued os ++ τ) start at ≡ gives (os, at + length os)
unfolding continued
octets-back [] τ start at n s h = absurd (omega arith)
octets-back (o ∷ []) τ start at n s h =
    ap (λ (b : ℕ). read_octets (b ∷ τ) start at) (zero-add o) ∙ octet-last τ start at (omega arith) o (s 0 (omega arith))
octets-back (o ∷ o' ∷ os) τ start at n s h =
    let l : o < 128 = s 0 (omega arith) in
    let e : (128 + o) % 128 ≡ o = omega arith in
    let k : at + 1 + length (o' ∷ os) ≡ at + length (o ∷ o' ∷ os) = omega arith in
    ap (λ (b : Bool). read_octets ((if b 128 0 + o) ∷ (continued (o' ∷ os) ++ τ)) start at) (lt-ltb 0 (length (o' ∷ os)) (omega arith))
    ∙ octet-more (continued (o' ∷ os) ++ τ) start at (omega arith) (128 + o) (omega arith)
    ∙ ap (map (λ (r : List ℕ × ℕ). ((128 + o) % 128 ∷ r.0, r.1)))
    (octets-back (o' ∷ os) τ start (at + 1) (omega arith) (λ i j. s (suc i) (omega arith)) (omega arith))
    ∙ rw (e, k) refl
