-- "Fields accepted for reading span at most 4,118 bytes and 1,366 pairs", all of them in the file.
use Prim.Native.Nat.{ℕ, zero, suc, ◌+◌, ◌-◌, ◌*◌, ◌%◌, ◌<◌, ◌≤◌}
use mathlib.Core.Path.{◌≡◌, refl, sym, ap, subst}
use mathlib.Core.List.{List, [], ◌∷◌}
use mathlib.Core.Bool.{Bool, true, false}
use native.Mathlib.Omega.{arith}
use borrow.Author.Tests.{leb-false}
use lib.Dec.{ltb, leb}
use lib.ListN.{length, drop, length-drop}
use Rattle.error.specs.Answer.{Answer, gives, refuses, map}
use Rattle.laws.proofs.Answers.{map_gives}
use Rattle.laws.proofs.Tests.{zero_one}
use Rattle.ext.specs.Kinds.{Pair, Fields, none, pairs}
use Rattle.ext.specs.Classes.{all, is_alpha_digit}
use Rattle.ext.specs.Read.{read_octets, read_octet, read_pair, read_pairs, read_fields}
use Rattle.ext.proofs.FieldsCases.{by_kind, PairsGiven, last, more, pairs-given}
use Rattle.ext.proofs.Continuation.{pair_count}

-- fields f of a file s that stand from `at` to `end`
pub record Bounds (follow : Bool) (s : List ℕ) (at : ℕ) (f : Fields) (end : ℕ) : Type 0 where
  pub forward : at ≤ end
  pub span_most : end - at ≤ 4118
  pub pairs_most : pair_count f ≤ 1366
  pub empty : follow ≡ false → end ≡ at
  pub within : follow ≡ true → end ≤ length s

octets-bound : (τ : List ℕ) (start at : ℕ) (r : List ℕ × ℕ) → read_octets τ start at ≡ gives r → (at < r.1) × (r.1 ≤ start + 4096)
    × (r.1 ≤ at + length τ)
unfolding read_octets
octets-bound [] start at r e = zero_one (cc)
octets-bound (b ∷ τ) start at r e = go (leb (start + 4096) at) (ltb b 128) refl e (octets-bound τ start (at + 1))
  where
    go : (t u : Bool) → leb (start + 4096) at ≡ t
        → (elim t as (λ x. Answer (List ℕ × ℕ)) [
          | true ↦ refuses 10 at
          | false ↦
              elim u as (λ x. Answer (List ℕ × ℕ)) [
                | true ↦ gives (b ∷ [], at + 1)
                | false ↦ map (λ r. (b % 128 ∷ r.0, r.1)) (read_octets τ start (at + 1))
              ]
        ]) ≡ gives r
        → ((r : List ℕ × ℕ) → read_octets τ start (at + 1) ≡ gives r → (at + 1 < r.1) × (r.1 ≤ start + 4096) × (r.1 ≤ at + 1 + length τ))
        → (at < r.1) × (r.1 ≤ start + 4096) × (r.1 ≤ at + length (b ∷ τ))
    go true u p q ih = zero_one (cc)
    go false true p q ih =
        let h = leb-false (start + 4096) at p in
        let e : at + 1 ≡ r.1 = cc in
        (omega arith, omega arith, omega arith)
    go false false p q ih =
        let m = map_gives _ (read_octets τ start (at + 1)) r q in
        let i = ih m.0 m.1 in
        let e : m.0.1 ≡ r.1 = ap (λ (x : List ℕ × ℕ). x.1) m.2 in
        (omega arith, omega arith, omega arith)

pairs-bound : (most : ℕ) (strict : Bool) (s : List ℕ) (start at : ℕ) (r : List Pair × ℕ) → read_pairs most strict s start at ≡ gives r
    → (at < r.1) × (r.1 ≤ start + 4118) × (r.1 ≤ length s) × (3 * length r.0 + at ≤ start + 4098)
unfolding read_pairs
pairs-bound zero strict s start at r e = zero_one (cc)
pairs-bound (suc most) strict s start at r e = go r (pairs-given most strict s start at r e) (pairs-bound most strict s start)
  where
    go : (r : List Pair × ℕ) → PairsGiven most strict s start at r
        → ((end : ℕ) (r : List Pair × ℕ) → read_pairs most strict s start end ≡ gives r
        → (end < r.1) × (r.1 ≤ start + 4118) × (r.1 ≤ length s) × (3 * length r.0 + end ≤ start + 4098))
        → (at < r.1) × (r.1 ≤ start + 4118) × (r.1 ≤ length s) × (3 * length r.0 + at ≤ start + 4098)
    go r (last x i h) ih = (omega arith, omega arith, omega arith, omega arith)
    go r (more x i h rest e) ih = let j = ih x.end rest e in (omega arith, omega arith, omega arith, omega arith)

octet-bound : (τ : List ℕ) (at : ℕ) (r : ℕ × ℕ) → read_octet τ at ≡ gives r → (r.1 ≡ at + 1) × (1 ≤ length τ)
unfolding read_octet
octet-bound [] at r e = zero_one (cc)
octet-bound (b ∷ τ) at r e = (let is : (b, at + 1) ≡ r = cc in ap (λ (x : ℕ × ℕ). x.1) (sym is), omega arith)

pub fields-bound : (strict follow : Bool) (kind : ℕ) (s : List ℕ) (at : ℕ) (r : Fields × ℕ) → read_fields strict follow kind s at ≡ gives r
    → Bounds follow s at r.0 r.1
unfolding read_fields
fields-bound strict false kind s at r e =
    let is : (none, at) ≡ r = cc in
    subst (λ (x : Fields × ℕ). Bounds false s at x.0 x.1) is
    (record {
      forward = omega arith;
      span_most = omega arith;
      pairs_most = omega arith;
      empty = λ z. refl;
      within = λ z. zero_one (cc);
    })
fields-bound strict true kind s at r e =
    by_kind strict kind s at (λ x. x ≡ gives r → Bounds true s at r.0 r.1)
    (λ z q.
    let m = map_gives _ (read_octets (drop at s) at at) r q in
    let b = octets-bound (drop at s) at at m.0 m.1 in
    bounds _ _ m.2 (omega arith) (omega arith) (omega arith) (omega (arith, length-drop at s)))
    (λ z q.
    let m = map_gives _ (read_pairs (suc (length s)) strict s at at) r q in
    let b = pairs-bound (suc (length s)) strict s at at m.0 m.1 in
    bounds _ _ m.2 (omega arith) (omega arith) (omega arith) (omega arith))
    (λ y z q.
    let m = map_gives _ (read_octet (drop at s) at) r q in
    let b = octet-bound (drop at s) at m.0 m.1 in
    bounds _ _ m.2 (omega arith) (omega arith) (omega arith) (omega (arith, length-drop at s)))
    e
  where
    bounds : (f : Fields) (end : ℕ) → (f, end) ≡ r → at ≤ end → end ≤ at + 4118 → pair_count f ≤ 1366 → end ≤ length s
        → Bounds true s at r.0 r.1
    bounds f end is a b c d =
        subst (λ (x : Fields × ℕ). Bounds true s at x.0 x.1) is
        (record {
          forward = a;
          span_most = omega arith;
          pairs_most = c;
          empty = λ z. zero_one (cc);
          within = λ z. d;
        })

-- the fields of P5, one pair, k = 12
example : read_fields true true 3 (0 ∷ 224 ∷ 18 ∷ 107 ∷ 49 ∷ 50 ∷ 9 ∷ 2 ∷ []) 2
    ≡ gives (pairs (record { identifier = 107 ∷ []; value = 49 ∷ 50 ∷ [] } ∷ []), 6)
unfolding read_fields read_pairs read_pair all is_alpha_digit
example = refl
