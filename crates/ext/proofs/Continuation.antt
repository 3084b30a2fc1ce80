-- The direct definitions of reading and those in continuation form say the same.
use Prim.Native.Nat.{ℕ, zero, suc, ◌+◌, ◌%◌, ◌<◌}
use mathlib.Core.Path.{◌≡◌, ◌∙◌, refl, ap}
use mathlib.Core.List.{List, [], ◌∷◌}
use mathlib.Core.Bool.{Bool, true, false}
use native.Mathlib.Nat.{zero-add}
use native.Mathlib.Omega.{arith}
use borrow.Author.Tests.{leb-true, leb-false, eq-eqb, ne_eqb}
use lib.Dec.{ltb, leb}
use lib.ListN.{length, drop}
use Rattle.error.specs.Answer.{Answer, gives, refuses, bind, map}
use Rattle.laws.proofs.Lists.{tail-drop}
use Rattle.ext.specs.Kinds.{Pair, Fields}
use Rattle.ext.specs.Find.{pairs_in}
use Rattle.ext.specs.Read.{PairAt, read_octets, read_octet, read_pair, read_pairs, read_fields}
use Rattle.ext.specs.Internal.Bytewise.{octets, octet, pairs_from, fields_from}
use Rattle.ext.proofs.PairExtent.{pair-in}
use Rattle.ext.proofs.FieldsCases.{by_kind}
use Rattle.ext.proofs.PairsBytewise.{bind-map, after_pair, pairs_end, pairs-over, pairs-pair}

-- how many pairs there are
abbrev pub pair_count : Fields → ℕ
pair_count f = length (pairs_in f)

module _ {A : Type 0} (s : List ℕ) (k : ℕ → ℕ → List ℕ → Answer A) where
  pub octets-in : (τ : List ℕ) (start at : ℕ) → τ ≡ drop at s
      → octets τ start at k ≡ bind (read_octets τ start at) (λ r. k r.1 0 (drop r.1 s))
  unfolding octets read_octets
  octets-in [] start at e = refl
  octets-in (b ∷ τ) start at e = go (leb (start + 4096) at) (ltb b 128) (octets-in τ start (at + 1) (tail-drop s b τ at e))
    where
      go : (t u : Bool) → octets τ start (at + 1) k ≡ bind (read_octets τ start (at + 1)) (λ r. k r.1 0 (drop r.1 s))
          → (elim t as (λ x. Answer A) [
            | true ↦ refuses 10 at
            | false ↦ elim u as (λ x. Answer A) [ true ↦ k (at + 1) 0 τ | false ↦ octets τ start (at + 1) k ]
          ])
          ≡ bind {A = List ℕ × ℕ} (elim t as (λ x. Answer (List ℕ × ℕ)) [
            | true ↦ refuses 10 at
            | false ↦
                elim u as (λ x. Answer (List ℕ × ℕ)) [
                  | true ↦ gives (b ∷ [], at + 1)
                  | false ↦ map (λ r. (b % 128 ∷ r.0, r.1)) (read_octets τ start (at + 1))
                ]
          ]) (λ r. k r.1 0 (drop r.1 s))
      go true u ih = refl
      go false true ih = ap (k (at + 1) 0) (tail-drop s b τ at e)
      go false false ih = ih ∙ rw bind-map

  pub octet-in : (τ : List ℕ) (at : ℕ) → τ ≡ drop at s → octet τ at k ≡ bind (read_octet τ at) (λ r. k r.1 0 (drop r.1 s))
  unfolding octet read_octet
  octet-in [] at e = refl
  octet-in (b ∷ τ) at e = ap (k (at + 1) 0) (tail-drop s b τ at e)

  pub pairs-in : (most : ℕ) (strict : Bool) (start at done : ℕ) → length s < most + at
      → pairs_from (drop at s) strict start at done k ≡ bind (read_pairs most strict s start at)
      (λ r. k r.1 (done + length r.0) (drop r.1 s))
  unfolding read_pairs
  pairs-in zero strict start at done h = pairs_end strict s start done k at (omega arith)
  pairs-in (suc most) strict start at done h =
      go (leb (length s) at) (leb (start + 4096) at) refl refl (λ end b. pairs-in most strict start end (done + 1) b)
    where
      K : List Pair × ℕ → Answer A
      K r = k r.1 (done + length r.0) (drop r.1 s)

      after : PairAt → Answer (List Pair × ℕ)
      after p =
          elim p.more [
            | true ↦ map (λ r. (p.pair ∷ r.0, r.1)) (read_pairs most strict s start p.end)
            | false ↦ gives (p.pair ∷ [], p.end)
          ]

      go : (t u : Bool) → leb (length s) at ≡ t → leb (start + 4096) at ≡ u
          → ((end : ℕ) → length s < most + end
          → pairs_from (drop end s) strict start end (done + 1) k
          ≡ bind (read_pairs most strict s start end) (λ r. k r.1 (done + 1 + length r.0) (drop r.1 s)))
          → pairs_from (drop at s) strict start at done k
          ≡ bind (elim t as (λ x. Answer (List Pair × ℕ)) [
            | true ↦ refuses 9 at
            | false ↦ elim u as (λ x. Answer (List Pair × ℕ)) [ true ↦ refuses 10 at | false ↦ bind (read_pair strict s at) after ]
          ]) K
      go true u p q ih = pairs_end strict s start done k at (leb-true (length s) at p)
      go false true p q ih = pairs-over strict s start done k at (leb-false (length s) at p) (leb-true (start + 4096) at q)
      go false false p q ih =
          pairs-pair strict s start done k at (leb-false (length s) at p) (leb-false (start + 4096) at q) ∙ each (read_pair strict s at) refl
        where
          each : (x : Answer PairAt) → read_pair strict s at ≡ x → bind x (λ q. after_pair strict s start done k q.more q.end)
              ≡ bind (bind x after) K
          each (refuses c o) e = refl
          each (gives p) e = again p.more
            where
              rest : (x : Answer (List Pair × ℕ))
                  → bind x (λ r. k r.1 (done + 1 + length r.0) (drop r.1 s)) ≡ bind (map (λ r. (p.pair ∷ r.0, r.1)) x) K
              rest (gives r) =
                  let n : done + 1 + length r.0 ≡ done + suc (length r.0) = omega arith in
                  ap (λ (m : ℕ). k r.1 m (drop r.1 s)) n
              rest (refuses c o) = refl

              again : (t : Bool)
                  → after_pair strict s start done k t p.end
                  ≡ bind (elim t as (λ x. Answer (List Pair × ℕ)) [
                    | true ↦ map (λ r. (p.pair ∷ r.0, r.1)) (read_pairs most strict s start p.end)
                    | false ↦ gives (p.pair ∷ [], p.end)
                  ]) K
              again true =
                  let i = pair-in strict s at p e in
                  ih p.end (omega arith) ∙ rest (read_pairs most strict s start p.end)
              again false = refl

  -- Reading goes on from the fields as from their end and the number of their pairs.
  pub fields_in : (strict follow : Bool) (kind at : ℕ)
      → fields_from strict follow kind (drop at s) at k
      ≡ bind (read_fields strict follow kind s at) (λ r. k r.1 (pair_count r.0) (drop r.1 s))
  unfolding fields_from read_fields
  fields_in strict false kind at = refl
  fields_in strict true kind at =
      by_kind strict kind s at
      (λ x. fields_from strict true kind (drop at s) at k ≡ bind x (λ r. k r.1 (pair_count r.0) (drop r.1 s)))
      (λ z. simp (fields_from, eq-eqb kind 0 z, bind-map) (octets-in (drop at s) at at refl))
      (λ z. simp (fields_from, ne_eqb kind 0 (λ y. omega arith), eq-eqb kind 3 z, bind-map)
      (pairs-in (suc (length s)) strict at at 0 (omega arith) ∙ simp zero-add))
      (λ y z. simp (fields_from, ne_eqb kind 0 y, ne_eqb kind 3 z, bind-map) (octet-in (drop at s) at refl))
