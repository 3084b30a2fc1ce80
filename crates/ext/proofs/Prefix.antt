-- Reading fields that do not end the input early goes the same with more bytes behind.
use Prim.Native.Nat.{ℕ, zero, suc, ◌+◌, ◌/◌, ◌%◌, ◌<◌, ◌≤◌}
use mathlib.Core.Path.{◌≡◌, ◌∙◌, refl, sym, ap}
use mathlib.Core.List.{List, [], ◌∷◌, ◌++◌}
use mathlib.Core.Bool.{Bool, true, false, not}
use native.Mathlib.Omega.{arith}
use borrow.Author.Tests.{ltb-false, leb-true, leb-false, le-ltb, lt-leb}
use lib.Dec.{ltb, leb, eqb}
use lib.ListN.{length, get_or, drop, length-append, drop_of_length-le, get_or-append}
use lib.Seq.{slice, take-append-le, drop-append-le}
use Rattle.error.specs.Choice.{if}
use Rattle.error.specs.Answer.{Answer, gives, refuses, bind, map, is_end}
use Rattle.laws.proofs.Tests.{zero_one}
use Rattle.ext.specs.Kinds.{Pair, Fields, bitfield, reserved, pairs}
use Rattle.ext.specs.Read.{PairAt, read_octets, read_octet, read_pair, read_pairs, read_fields, pair_parts, classed}

-- an answer that more bytes do not change
abbrev pub decided : {A : Type 0} → Answer A → Bool
decided (gives a) = true
decided (refuses code offset) = not (is_end code)

decided-map : {A B : Type 0} (f : A → B) (x : Answer A) → decided (map f x) ≡ decided x
decided-map f (gives a) = refl
decided-map f (refuses code offset) = refl

decided-bind : {A B : Type 0} (f : A → Answer B) (x : Answer A) → decided (bind x f) ≡ true → decided x ≡ true
decided-bind f (gives a) e = refl
decided-bind f (refuses code offset) e = e

octets-prefix : (τ ρ : List ℕ) (start at : ℕ) → decided (read_octets τ start at) ≡ true
    → read_octets (τ ++ ρ) start at ≡ read_octets τ start at
unfolding read_octets
octets-prefix [] ρ start at e = zero_one (cc)
octets-prefix (b ∷ τ) ρ start at e = go (leb (start + 4096) at) (ltb b 128) e (octets-prefix τ ρ start (at + 1))
  where
    octets : Bool → Bool → List ℕ → Answer (List ℕ × ℕ)
    octets t u τ =
        elim t [
          | true ↦ refuses 10 at
          | false ↦
              elim u [
                | true ↦ gives (b ∷ [], at + 1)
                | false ↦ map (λ r. (b % 128 ∷ r.0, r.1)) (read_octets τ start (at + 1))
              ]
        ]

    go : (t u : Bool) → decided (octets t u τ) ≡ true
        → (decided (read_octets τ start (at + 1)) ≡ true → read_octets (τ ++ ρ) start (at + 1) ≡ read_octets τ start (at + 1))
        → octets t u (τ ++ ρ) ≡ octets t u τ
    go true u q ih = refl
    go false true q ih = refl
    go false false q ih = ap (map _) (ih (sym (decided-map _ (read_octets τ start (at + 1))) ∙ q))

octet-prefix : (τ ρ : List ℕ) (at : ℕ) → decided (read_octet τ at) ≡ true → read_octet (τ ++ ρ) at ≡ read_octet τ at
unfolding read_octet
octet-prefix [] ρ at e = zero_one (cc)
octet-prefix (b ∷ τ) ρ at e = refl

module _ (strict : Bool) (s ρ : List ℕ) where
  slice-prefix : (a b : ℕ) → b ≤ length s → slice a b (s ++ ρ) ≡ slice a b s
  slice-prefix a b h = ap (drop a) (take-append-le b s ρ h)

  parts-prefix : (more : Bool) (a b e : ℕ) → b ≤ e → decided (pair_parts strict s more a b e) ≡ true
      → pair_parts strict (s ++ ρ) more a b e ≡ pair_parts strict s more a b e
  parts-prefix more a b e o q = go (ltb (length s) b) (ltb (length s) e) refl refl q
    where
      whole : List ℕ → PairAt
      whole s = record { pair = record { identifier = slice a b s; value = slice b e s }; more = more; end = e }

      go : (t u : Bool) → ltb (length s) b ≡ t → ltb (length s) e ≡ u
          → decided (if t (refuses 13 a) (if u (refuses 13 b) (classed strict (whole s)))) ≡ true
          → pair_parts strict (s ++ ρ) more a b e ≡ if t (refuses 13 a) (if u (refuses 13 b) (classed strict (whole s)))
      go true u x y q = zero_one (cc)
      go false true x y q = zero_one (cc)
      go false false x y q =
          let h = ltb-false (length s) e y in
          let n = length-append s ρ in
          rw (
            le-ltb (length (s ++ ρ)) b (omega arith),
            le-ltb (length (s ++ ρ)) e (omega arith),
            slice-prefix a b (omega arith),
            slice-prefix b e h,
          )

  pair-prefix : (at : ℕ) → at < length s → decided (read_pair strict s at) ≡ true → read_pair strict (s ++ ρ) at ≡ read_pair strict s at
  unfolding read_pair
  pair-prefix at h q = rw (get_or-append s ρ 0 at h) (go (eqb (b / 16 % 8) 0) (eqb (b % 16) 0) q)
    where
      b : ℕ
      b = get_or s at 0

      pair : Bool → Bool → List ℕ → Answer PairAt
      pair t u s =
          if t (refuses 11 (at + 1)) (if u (refuses 12 (at + 1))
          (pair_parts strict s (leb 128 b) (at + 1) (at + 1 + b / 16 % 8) (at + 1 + b / 16 % 8 + b % 16)))

      go : (t u : Bool) → decided (pair t u s) ≡ true → pair t u (s ++ ρ) ≡ pair t u s
      go true u q = refl
      go false true q = refl
      go false false q = parts-prefix (leb 128 b) (at + 1) (at + 1 + b / 16 % 8) (at + 1 + b / 16 % 8 + b % 16) (omega arith) q

  pairs-prefix : (most most' start at : ℕ) → most ≤ most' → decided (read_pairs most strict s start at) ≡ true
      → read_pairs most' strict (s ++ ρ) start at ≡ read_pairs most strict s start at
  unfolding read_pairs
  pairs-prefix zero most' start at o q = zero_one (cc)
  pairs-prefix (suc most) zero start at o q = let f : ⊥ = omega arith in absurd f
  pairs-prefix (suc most) (suc most') start at o q =
      go (leb (length s) at) (leb (start + 4096) at) refl q (λ end. pairs-prefix most most' start end (omega arith))
    where
      after : Answer (List Pair × ℕ) → Bool → PairAt → Answer (List Pair × ℕ)
      after rest more p = elim more [ true ↦ map (λ r. (p.pair ∷ r.0, r.1)) rest | false ↦ gives (p.pair ∷ [], p.end) ]

      afters : ℕ → List ℕ → PairAt → Answer (List Pair × ℕ)
      afters most s p = after (read_pairs most strict s start p.end) p.more p

      each : ((end : ℕ) → decided (read_pairs most strict s start end) ≡ true
          → read_pairs most' strict (s ++ ρ) start end ≡ read_pairs most strict s start end)
          → (x : Answer PairAt) → decided (bind x (afters most s)) ≡ true → bind x (afters most' (s ++ ρ)) ≡ bind x (afters most s)
      each ih (refuses code offset) q = refl
      each ih (gives p) q = again p.more q
        where
          again : (t : Bool) → decided (after (read_pairs most strict s start p.end) t p) ≡ true
              → after (read_pairs most' strict (s ++ ρ) start p.end) t p ≡ after (read_pairs most strict s start p.end) t p
          again true q = ap (map _) (ih p.end (sym (decided-map _ (read_pairs most strict s start p.end)) ∙ q))
          again false q = refl

      pairs : Bool → Bool → ℕ → List ℕ → Answer (List Pair × ℕ)
      pairs t u most s =
          elim t [ true ↦ refuses 9 at | false ↦ elim u [ true ↦ refuses 10 at | false ↦ bind (read_pair strict s at) (afters most s) ] ]

      go : (t u : Bool) → leb (length s) at ≡ t → decided (pairs t u most s) ≡ true
          → ((end : ℕ) → decided (read_pairs most strict s start end) ≡ true
          → read_pairs most' strict (s ++ ρ) start end ≡ read_pairs most strict s start end)
          → pairs (leb (length (s ++ ρ)) at) u most' (s ++ ρ) ≡ pairs t u most s
      go true u x q ih = zero_one (cc)
      go false u x q ih =
          let h = leb-false (length s) at x in
          let n = length-append s ρ in
          rw (lt-leb (length (s ++ ρ)) at (omega arith)) (under u q)
        where
          under : (u : Bool) → decided (pairs false u most s) ≡ true → pairs false u most' (s ++ ρ) ≡ pairs false u most s
          under true q = refl
          under false q =
              rw (pair-prefix at (leb-false (length s) at x) (decided-bind (afters most s) (read_pair strict s at) q))
              (each ih (read_pair strict s at) q)

-- a reader of the bytes from an offset on, which is refused where there are none
from-prefix : {A : Type 0} (read : List ℕ → Answer A) (s ρ : List ℕ) (at : ℕ) → decided (read []) ≡ false
    → ((τ : List ℕ) → decided (read τ) ≡ true → read (τ ++ ρ) ≡ read τ)
    → decided (read (drop at s)) ≡ true → read (drop at (s ++ ρ)) ≡ read (drop at s)
from-prefix read s ρ at ends same q = go (leb (length s) at) refl
  where
    go : (t : Bool) → leb (length s) at ≡ t → read (drop at (s ++ ρ)) ≡ read (drop at s)
    go true x = let e = drop_of_length-le s (leb-true (length s) at x) in zero_one (cc)
    go false x = let h = leb-false (length s) at x in rw (drop-append-le at s ρ (omega arith)) (same (drop at s) q)

-- An answer other than an end of the input stays.
pub fields-prefix : (strict follow : Bool) (kind : ℕ) (s ρ : List ℕ) (at : ℕ) → decided (read_fields strict follow kind s at) ≡ true
    → read_fields strict follow kind (s ++ ρ) at ≡ read_fields strict follow kind s at
unfolding read_fields read_octets read_octet
fields-prefix strict false kind s ρ at q = refl
fields-prefix strict true kind s ρ at q = go (eqb kind 0) (eqb kind 3) q
  where
    fields : Bool → Bool → List ℕ → Answer (Fields × ℕ)
    fields t u s =
        elim t [
          | true ↦ map (λ r. (bitfield r.0, r.1)) (read_octets (drop at s) at at)
          | false ↦
              elim u [
                | true ↦ map (λ r. (pairs r.0, r.1)) (read_pairs (suc (length s)) strict s at at)
                | false ↦ map (λ r. (reserved kind r.0, r.1)) (read_octet (drop at s) at)
              ]
        ]

    go : (t u : Bool) → decided (fields t u s) ≡ true → fields t u (s ++ ρ) ≡ fields t u s
    go true u q =
        ap (map _) (from-prefix (λ τ. read_octets τ at at) s ρ at refl (λ τ. octets-prefix τ ρ at at)
        (sym (decided-map _ (read_octets (drop at s) at at)) ∙ q))
    go false true q =
        let n = length-append s ρ in
        ap (map _) (pairs-prefix strict s ρ (suc (length s)) (suc (length (s ++ ρ))) at at (omega arith)
        (sym (decided-map _ (read_pairs (suc (length s)) strict s at at)) ∙ q))
    go false false q =
        ap (map _) (from-prefix (λ τ. read_octet τ at) s ρ at refl (λ τ. octet-prefix τ ρ at)
        (sym (decided-map _ (read_octet (drop at s) at)) ∙ q))

-- two such answers: one octet of kind 01, and a pair of kind 11 whose identifier's length is 0
example : decided (read_fields true true 1 (7 ∷ []) 0) ≡ true
unfolding read_fields read_octet
example = refl

example-refused : decided (read_fields true true 3 (1 ∷ []) 0) ≡ true
unfolding read_fields read_pairs read_pair
example-refused = refl
