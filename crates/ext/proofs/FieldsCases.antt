-- Readings of fields and of pairs, by cases.
use Prim.Native.Nat.{ℕ, suc, ◌+◌, ◌<◌}
use mathlib.Core.Path.{◌≡◌, refl, subst}
use mathlib.Core.List.{List, [], ◌∷◌}
use mathlib.Core.Bool.{Bool, true, false}
use borrow.Author.Tests.{eqb-true, eqb-false, leb-false}
use lib.Dec.{leb, eqb}
use lib.ListN.{length, get_or, drop}
use Rattle.error.specs.Answer.{Answer, gives, refuses, bind, map}
use Rattle.laws.proofs.Answers.{map_gives, bind-gives}
use Rattle.laws.proofs.Tests.{zero_one}
use Rattle.ext.specs.Kinds.{Pair, Fields, bitfield, reserved, pairs}
use Rattle.ext.specs.Read.{PairAt, read_octets, read_octet, read_pair, read_pairs, read_fields}
use Rattle.ext.proofs.PairExtent.{PairIn, pair-in}

-- fields that follow, by their kind
pub by_kind : (strict : Bool) (kind : ℕ) (s : List ℕ) (at : ℕ) (P : Answer (Fields × ℕ) → Type 0)
    → (kind ≡ 0 → P (map (λ r. (bitfield r.0, r.1)) (read_octets (drop at s) at at)))
    → (kind ≡ 3 → P (map (λ r. (pairs r.0, r.1)) (read_pairs (suc (length s)) strict s at at)))
    → ((kind ≡ 0 → ⊥) → (kind ≡ 3 → ⊥) → P (map (λ r. (reserved kind r.0, r.1)) (read_octet (drop at s) at)))
    → P (read_fields strict true kind s at)
unfolding read_fields
by_kind strict kind s at P octets-case pairs-case octet-case = go (eqb kind 0) (eqb kind 3) refl refl
  where
    go : (t u : Bool) → eqb kind 0 ≡ t → eqb kind 3 ≡ u
        → P (elim t as (λ x. Answer (Fields × ℕ)) [
          | true ↦ map (λ r. (bitfield r.0, r.1)) (read_octets (drop at s) at at)
          | false ↦
              elim u as (λ x. Answer (Fields × ℕ)) [
                | true ↦ map (λ r. (pairs r.0, r.1)) (read_pairs (suc (length s)) strict s at at)
                | false ↦ map (λ r. (reserved kind r.0, r.1)) (read_octet (drop at s) at)
              ]
        ])
    go true u p q = octets-case (eqb-true kind 0 p)
    go false true p q = pairs-case (eqb-true kind 3 q)
    go false false p q = octet-case (eqb-false kind 0 p) (eqb-false kind 3 q)

-- pairs that were read: a last one, or one and those after it
pub data PairsGiven (most : ℕ) (strict : Bool) (s : List ℕ) (start at : ℕ) : List Pair × ℕ → Type 0 where
  last : (x : PairAt) → PairIn s (get_or s at 0) at x → at < start + 4096 → PairsGiven most strict s start at (x.pair ∷ [], x.end)
  more : (x : PairAt) → PairIn s (get_or s at 0) at x → at < start + 4096 → (r : List Pair × ℕ) → read_pairs most strict s start x.end
      ≡ gives r
      → PairsGiven most strict s start at (x.pair ∷ r.0, r.1)

pub pairs-given : (most : ℕ) (strict : Bool) (s : List ℕ) (start at : ℕ) (r : List Pair × ℕ) → read_pairs (suc most) strict s start at
    ≡ gives r
    → PairsGiven most strict s start at r
unfolding read_pairs
pairs-given most strict s start at r e = go (leb (length s) at) (leb (start + 4096) at) refl e
  where
    after : PairAt → Answer (List Pair × ℕ)
    after p =
        elim p.more [
          | true ↦ map (λ r. (p.pair ∷ r.0, r.1)) (read_pairs most strict s start p.end)
          | false ↦ gives (p.pair ∷ [], p.end)
        ]

    go : (t u : Bool) → leb (start + 4096) at ≡ u
        → (elim t as (λ x. Answer (List Pair × ℕ)) [
          | true ↦ refuses 9 at
          | false ↦ elim u as (λ x. Answer (List Pair × ℕ)) [ true ↦ refuses 10 at | false ↦ bind (read_pair strict s at) after ]
        ]) ≡ gives r
        → PairsGiven most strict s start at r
    go true u p q = zero_one (cc)
    go false true p q = zero_one (cc)
    go false false p q =
        let b = bind-gives (read_pair strict s at) after r q in
        one b.0 (pair-in strict s at b.0 b.1) b.0.more b.2
      where
        one : (x : PairAt) → PairIn s (get_or s at 0) at x → (t : Bool)
            → (elim t as (λ x. Answer (List Pair × ℕ)) [
              | true ↦ map (λ r. (x.pair ∷ r.0, r.1)) (read_pairs most strict s start x.end)
              | false ↦ gives (x.pair ∷ [], x.end)
            ]) ≡ gives r
            → PairsGiven most strict s start at r
        one x i true e =
            let m = map_gives _ (read_pairs most strict s start x.end) r e in
            subst (PairsGiven most strict s start at) m.2 (more x i (leb-false (start + 4096) at p) m.0 m.1)
        one x i false e =
            let is : (x.pair ∷ [], x.end) ≡ r = cc in
            subst (PairsGiven most strict s start at) is (last x i (leb-false (start + 4096) at p))
