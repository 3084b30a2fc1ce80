-- A pair byte by byte is the pair as it stands in the file.
use Prim.Native.Nat.{ℕ, zero, suc, ◌+◌, ◌-◌, ◌/◌, ◌%◌, ◌<◌, ◌≤◌}
use mathlib.Core.Path.{◌≡◌, ◌∙◌, refl, sym, ap}
use mathlib.Core.List.{List, [], ◌∷◌}
use mathlib.Core.Bool.{Bool, true, false}
use native.Mathlib.Omega.{arith}
use borrow.Author.Tests.{lt-ltb, lt-leb, le-leb, ltb-true, ltb-false, eqb-false}
use lib.Dec.{ltb, leb, eqb}
use lib.ListN.{length, drop, take, get_or, length-drop, drop_of_length-le}
use lib.Seq.{slice, drop-drop}
use Rattle.error.specs.Choice.{if}
use Rattle.error.specs.Answer.{Answer, gives, refuses, bind, map}
use Rattle.laws.proofs.Lists.{drop_at, take-slice}
use Rattle.ext.specs.Classes.{is_char, is_alpha_digit, in_class}
use Rattle.ext.specs.Read.{PairAt, read_pair, pair_parts, classed}
use Rattle.ext.specs.Internal.Bytewise.{pairs_from, identifier_from, value_from, identifier_fault, value_fault}
use Rattle.ext.specs.Internal.Pairwise.{pair_step}
use Rattle.ext.proofs.PairFaults.{identifier_faults, value_faults, pair-fault}

pub bind-map : {A B C : Type 0} (x : Answer A) (f : A → B) (g : B → Answer C) → bind (map f x) g ≡ bind x (λ a. g (f a))
bind-map (gives a) f g = refl
bind-map (refuses code offset) f g = refl

module _ {A : Type 0} (strict : Bool) (start done : ℕ) (more : Bool) (k : ℕ → ℕ → List ℕ → Answer A) where
  identifier-short : (τ : List ℕ) (at begun left size fault : ℕ) → length τ < left
      → identifier_from τ strict start at done begun left size more fault k ≡ refuses 13 begun
  unfolding identifier_from
  identifier-short [] at begun left size fault h = refl
  identifier-short (b ∷ τ) at begun left size fault h =
      simp (identifier_from, lt-ltb 1 left (omega arith))
      (identifier-short τ (at + 1) begun (left - 1) size (identifier_fault strict fault b) (omega arith))

  value-short : (τ : List ℕ) (at begun left fault : ℕ) → length τ < left → value_from τ strict start at done begun left more fault k
      ≡ refuses 13 begun
  unfolding value_from
  value-short [] at begun left fault h = refl
  value-short (b ∷ τ) at begun left fault h =
      simp (value_from, lt-ltb 1 left (omega arith)) (value-short τ (at + 1) begun (left - 1) (value_fault strict fault b) (omega arith))

  identifier-full : (τ : List ℕ) (left at begun size fault : ℕ) → 1 ≤ left → left ≤ length τ
      → identifier_from τ strict start at done begun left size more fault k
      ≡ value_from (drop left τ) strict start (at + left) done (at + left) size more (identifier_faults strict fault (take left τ)) k
  unfolding identifier_from identifier_faults
  identifier-full [] left at begun size fault l h = let f : ⊥ = omega arith in absurd f
  identifier-full (b ∷ τ) zero at begun size fault l h = let f : ⊥ = omega arith in absurd f
  identifier-full (b ∷ τ) (suc zero) at begun size fault l h = refl
  identifier-full (b ∷ τ) (suc (suc m)) at begun size fault l h =
      let e : suc (suc m) - 1 ≡ suc m = omega arith in
      let p : at + 1 + suc m ≡ at + suc (suc m) = omega arith in
      let f = identifier_fault strict fault b in
      simp (identifier_from, lt-ltb 1 (suc (suc m)) (omega arith), e)
      (identifier-full τ (suc m) (at + 1) begun size f (omega arith) (omega arith)
      ∙ ap (λ (q : ℕ). value_from (drop (suc m) τ) strict start q done q size more (identifier_faults strict f (take (suc m) τ)) k) p)

  -- what a reading goes on with after a pair whose fault is known
  abbrev closes : List ℕ → ℕ → ℕ → Answer A
  closes τ at fault =
      elim (eqb fault 0) [
        | false ↦ refuses fault at
        | true ↦ elim more [ true ↦ pairs_from τ strict start at (done + 1) k | false ↦ k at (done + 1) τ ]
      ]

  value-full : (τ : List ℕ) (left at begun fault : ℕ) → 1 ≤ left → left ≤ length τ
      → value_from τ strict start at done begun left more fault k ≡ closes (drop left τ) (at + left) (value_faults strict fault (take left τ))
  unfolding value_from value_faults
  value-full [] left at begun fault l h = let f : ⊥ = omega arith in absurd f
  value-full (b ∷ τ) zero at begun fault l h = let f : ⊥ = omega arith in absurd f
  value-full (b ∷ τ) (suc zero) at begun fault l h = refl
  value-full (b ∷ τ) (suc (suc m)) at begun fault l h =
      let e : suc (suc m) - 1 ≡ suc m = omega arith in
      let p : at + 1 + suc m ≡ at + suc (suc m) = omega arith in
      let f = value_fault strict fault b in
      simp (value_from, lt-ltb 1 (suc (suc m)) (omega arith), e)
      (value-full τ (suc m) (at + 1) begun f (omega arith) (omega arith)
      ∙ ap (λ (q : ℕ). closes (drop (suc m) τ) q (value_faults strict f (take (suc m) τ))) p)

module _ {A : Type 0} (strict : Bool) (s : List ℕ) (start done : ℕ) (k : ℕ → ℕ → List ℕ → Answer A) where
  -- what a reading goes on with after a pair
  abbrev pub after_pair : Bool → ℕ → Answer A
  after_pair more end = elim more [ true ↦ pairs_from (drop end s) strict start end (done + 1) k | false ↦ k end (done + 1) (drop end s) ]

  closes_in : (p : PairAt)
      → closes strict start done p.more k (drop p.end s) p.end
      (value_faults strict (identifier_faults strict 0 p.pair.identifier) p.pair.value)
      ≡ bind (classed strict p) (λ q. after_pair q.more q.end)
  closes_in p =
      rw (pair-fault strict p.pair.identifier p.pair.value)
      (go (in_class strict is_char p.pair.identifier) (in_class strict is_alpha_digit p.pair.value))
    where
      go : (t u : Bool)
          → closes strict start done p.more k (drop p.end s) p.end (if t (if u 0 15) 14)
          ≡ bind (if t (if u (gives p) (refuses 15 p.end)) (refuses 14 p.end)) (λ q. after_pair q.more q.end)
      go true true = refl
      go true false = refl
      go false u = refl

  parts : (more : Bool) (a i v : ℕ) → a ≤ length s → 1 ≤ i → 1 ≤ v
      → identifier_from (drop a s) strict start a done a i v more 0 k
      ≡ bind (pair_parts strict s more a (a + i) (a + i + v)) (λ q. after_pair q.more q.end)
  parts more a i v la li lv = go (ltb (length s) (a + i)) (ltb (length s) (a + i + v)) refl refl
    where
      whole : PairAt
      whole = record { pair = record { identifier = slice a (a + i) s; value = slice (a + i) (a + i + v) s }; more = more; end = a + i + v }

      past : a + i ≤ length s
          → identifier_from (drop a s) strict start a done a i v more 0 k
          ≡ value_from (drop (a + i) s) strict start (a + i) done (a + i) v more (identifier_faults strict 0 (slice a (a + i) s)) k
      past h =
          identifier-full strict start done more k (drop a s) i a a v 0 li (rw (length-drop a s) (omega arith))
          ∙ rw (drop-drop i a s, take-slice a i s)

      go : (t u : Bool) → ltb (length s) (a + i) ≡ t → ltb (length s) (a + i + v) ≡ u
          → identifier_from (drop a s) strict start a done a i v more 0 k
          ≡ bind (if t (refuses 13 a) (if u (refuses 13 (a + i)) (classed strict whole))) (λ q. after_pair q.more q.end)
      go true u p q =
          let h = ltb-true (length s) (a + i) p in
          identifier-short strict start done more k (drop a s) a a i v 0 (rw (length-drop a s) (omega arith))
      go false true p q =
          let h = ltb-false (length s) (a + i) p in
          let g = ltb-true (length s) (a + i + v) q in
          past h ∙ value-short strict start done more k (drop (a + i) s) (a + i) (a + i) v _ (rw (length-drop (a + i) s) (omega arith))
      go false false p q =
          let h = ltb-false (length s) (a + i) p in
          let g = ltb-false (length s) (a + i + v) q in
          past h
          ∙ value-full strict start done more k (drop (a + i) s) v (a + i) (a + i) (identifier_faults strict 0 (slice a (a + i) s)) lv
          (rw (length-drop (a + i) s) (omega arith))
          ∙ rw (drop-drop v (a + i) s, take-slice (a + i) v s) (closes_in whole)

  pub pairs_end : (at : ℕ) → length s ≤ at → pairs_from (drop at s) strict start at done k ≡ refuses 9 at
  unfolding pairs_from
  pairs_end at h = rw (drop_of_length-le s h)

  pub pairs-over : (at : ℕ) → at < length s → start + 4096 ≤ at → pairs_from (drop at s) strict start at done k ≡ refuses 10 at
  unfolding pairs_from
  pairs-over at h o = rw (drop_at s at h) (simp (pairs_from, le-leb (start + 4096) at o))

  pub pairs-pair : (at : ℕ) → at < length s → at < start + 4096
      → pairs_from (drop at s) strict start at done k ≡ bind (read_pair strict s at) (λ q. after_pair q.more q.end)
  unfolding pairs_from read_pair
  pairs-pair at h o =
      rw (drop_at s at h) (simp (pairs_from, lt-leb (start + 4096) at o)
      (go (eqb (get_or s at 0 / 16 % 8) 0) (eqb (get_or s at 0 % 16) 0) refl refl))
    where
      go : (t u : Bool) → eqb (get_or s at 0 / 16 % 8) 0 ≡ t → eqb (get_or s at 0 % 16) 0 ≡ u
          → (elim t as (λ x. Answer A) [
            | true ↦ refuses 11 (at + 1)
            | false ↦
                elim u as (λ x. Answer A) [
                  | true ↦ refuses 12 (at + 1)
                  | false ↦
                      identifier_from (drop (at + 1) s) strict start (at + 1) done (at + 1) (get_or s at 0 / 16 % 8) (get_or s at 0 % 16)
                      (leb 128 (get_or s at 0)) 0 k
                ]
          ])
          ≡ bind (if t (refuses 11 (at + 1)) (if u (refuses 12 (at + 1))
          (pair_parts strict s (leb 128 (get_or s at 0)) (at + 1) (at + 1 + get_or s at 0 / 16 % 8)
          (at + 1 + get_or s at 0 / 16 % 8 + get_or s at 0 % 16))))
          (λ q. after_pair q.more q.end)
      go true u p q = refl
      go false true p q = refl
      go false false p q =
          parts (leb 128 (get_or s at 0)) (at + 1) (get_or s at 0 / 16 % 8) (get_or s at 0 % 16) (omega arith)
          (pos _ (eqb-false (get_or s at 0 / 16 % 8) 0 p)) (pos _ (eqb-false (get_or s at 0 % 16) 0 q))
        where
          pos : (n : ℕ) → (n ≡ 0 → ⊥) → 1 ≤ n
          pos n f = omega arith

  -- the same by what `parse_pair` answers
  pub pairs-step : (at : ℕ) → at < length s → at < start + 4096
      → pairs_from (drop at s) strict start at done k ≡ bind (map pair_step (read_pair strict s at)) (λ p. after_pair p.0 p.1)
  pairs-step at h o = pairs-pair at h o ∙ sym (bind-map (read_pair strict s at) pair_step (λ p. after_pair p.0 p.1))
