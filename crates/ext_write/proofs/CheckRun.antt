-- What a run of checks over all pairs comes to: the answer of the fields' definition.
use Prim.Native.Nat.{ℕ, suc, ◌+◌, ◌/◌, ◌≤◌, ◌<◌}
use mathlib.Core.Path.{◌≡◌, ◌∙◌, sym, ap, refl, subst}
use mathlib.Core.Bool.{Bool, true, false}
use mathlib.Core.List.{List, [], ◌∷◌, ◌++◌}
use mathlib.Core.Logic.{◌⊎◌, inl, inr, ⊎_elim}
use native.Mathlib.Nat.{zero-add}
use native.Mathlib.Omega.{arith}
use lib.Dec.{ltb, leb, eqb}
use lib.ListN.{length, take, drop, length-append, length-drop}
use lib.Seq.{drop-drop, length-take-le}
use borrow.Author.Tests.{lt-ltb, leb-true, leb-false, eqb-true, eqb-false, eq-eqb, ne_eqb}
use Rattle.error.specs.Choice.{if}
use Rattle.error.specs.Answer.{Answer, gives, refuses, bind, map, code_of}
use Rattle.laws.proofs.Lists.{length_part}
use Rattle.laws.proofs.Tests.{if-true, if-false}
use Rattle.ext.specs.Kinds.{Pair, Fields}
use Rattle.ext_write.specs.Write.{check_pair, pair_bytes, pairs_bytes, cut_pairs, sum, lent_fields, lent_bytes, fields_bytes}
use Rattle.ext_write.specs.Internal.Steps.{lent_pair, start_after, check_start, check_step, check_pairs}
use Rattle.ext_write.specs.Internal.Steps.{Checking}
use Rattle.ext_write.proofs.PairVerdict.{Verdict, verdict, pair-passed}
use Rattle.ext_write.proofs.PairsLaid.{laid, pairs-laid, laid_cons}

module _ (strict : Bool) where
  -- the first refusal's number, after a number so far
  abbrev pub first_code : ℕ → List Pair → ℕ
  first_code code [] = code
  first_code code (p ∷ ps) = first_code (if (eqb code 0) (code_of (check_pair strict p)) code) ps

  code_stays : (code : ℕ) (ps : List Pair) → (code ≡ 0 → ⊥) → first_code code ps ≡ code
  code_stays code [] n = refl
  code_stays code (p ∷ ps) n = ap (λ (c : ℕ). first_code c ps) (if-false _ _ _ (ne_eqb code 0 n)) ∙ code_stays code ps n

  -- pairs without a refusal are accepted, and the first refusal is the answer
  pub record Answered (a : Answer (List ℕ)) (code : ℕ) : Type 0 where
    pub accepted : code ≡ 0 → (bytes : List ℕ) × (a ≡ gives bytes)
    pub refused : (code ≡ 0 → ⊥) → a ≡ refuses code 0

  pub answered : (ps : List Pair) → Answered (laid strict ps) (first_code 0 ps)
  answered [] = record { accepted = λ z. ([], refl); refused = λ n. absurd (n refl) }
  answered (p ∷ ps) = by-check (check_pair strict p) (verdict strict p) (answered ps) (λ rest. pair_bytes (ltb 0 (length ps)) p ++ rest)
    where
      by-check : (a : Answer (Unit {0})) → Verdict a → Answered (laid strict ps) (first_code 0 ps)
          → (f : List ℕ → List ℕ) → Answered (bind a (λ u. map f (laid strict ps))) (first_code (code_of a) ps)
      by-check (gives u) v i f =
          record { accepted = λ z. (f (i.accepted z).0, ap (map f) (i.accepted z).1); refused = λ n. ap (map f) (i.refused n) }
      by-check (refuses code offset) v i f =
          let e = code_stays code ps v.0 in
          record { accepted = λ z. absurd (v.0 (sym e ∙ z)); refused = λ n. (cc) }

-- pairs cut from a text, by their first two lengths
pub cut-cons : (text ls : List ℕ) (at i v : ℕ) → cut_pairs (i ∷ v ∷ ls) (drop at text) ≡ lent_pair text at i v
    ∷ cut_pairs ls (drop (at + i + v) text)
unfolding cut_pairs
cut-cons text ls at i v =
    let e : at + (i + v) ≡ at + i + v = omega arith in
    rw (drop-drop i at text, drop-drop (i + v) at text, e) refl

pub cut-some : (lengths text : List ℕ) → 0 < length lengths → 0 < length (cut_pairs lengths text)
unfolding cut_pairs
cut-some [] text h = h
cut-some (i ∷ []) text h = omega arith
cut-some (i ∷ v ∷ ls) text h = omega arith

pub cut-more : (lengths text : List ℕ) → ltb 0 (length (cut_pairs lengths text)) ≡ ltb 0 (length lengths)
unfolding cut_pairs
cut-more [] text = refl
cut-more (i ∷ []) text = refl
cut-more (i ∷ v ∷ ls) text =
    lt-ltb 0 (length (cut_pairs (i ∷ v ∷ ls) text)) (omega arith) ∙ sym (lt-ltb 0 (length (i ∷ v ∷ ls)) (omega arith))

-- where the pair behind all starts
unfoldable pub starts_after : ℕ → List ℕ → ℕ
starts_after start [] = start
starts_after start (i ∷ []) = start_after start i 0
starts_after start (i ∷ v ∷ lengths) = starts_after (start_after start i v) lengths

module _ (strict : Bool) (text : List ℕ) where
  -- a check that has come to the end of the text
  abbrev ended : Checking → List ℕ → Checking
  ended s lengths =
      record {
        at = length text;
        start = starts_after s.start lengths;
        code = first_code strict s.code (cut_pairs lengths (drop s.at text));
      }

  -- what one step comes to
  data CheckStepped (s : Checking) (i v : ℕ) : Type 0 where
    inside : s.at + i + v ≤ length text
        → check_step strict text s i v
        ≡ record {
          at = s.at + i + v;
          start = start_after s.start i v;
          code = if (eqb s.code 0) (code_of (check_pair strict (lent_pair text s.at i v))) s.code;
        }
        → CheckStepped s i v
    past : check_step strict text s i v ≡ record { at = s.at; start = s.start; code = 31 } → length text < s.at + i + v
        → CheckStepped s i v

  stepped : (s : Checking) (i v : ℕ) → CheckStepped s i v
  unfolding check_step
  stepped s i v = by-test (leb (s.at + i + v) (length text)) refl
    where
      by-test : (b : Bool) → leb (s.at + i + v) (length text) ≡ b → CheckStepped s i v
      by-test true e = inside (leb-true _ _ e) (if-true _ _ _ e)
      by-test false e = past (if-false _ _ _ e) (leb-false _ _ e)

  -- lengths that add up to the text: the first refusal's number
  pub walk-in : (lengths : List ℕ) (s : Checking) → s.at + sum lengths ≡ length text
      → check_pairs strict text lengths s ≡ ended s lengths
  unfolding check_pairs sum cut_pairs starts_after
  walk-in [] s h = let e : s.at ≡ length text = omega arith in ap (λ (n : ℕ). record { at = n; start = s.start; code = s.code }) e
  walk-in (i ∷ []) s h = by-step (stepped s i 0)
    where
      by-step : CheckStepped s i 0 → check_step strict text s i 0 ≡ ended s (i ∷ [])
      by-step (inside l e) =
          let f : s.at + i + 0 ≡ length text = omega arith in
          e ∙ ap (λ (n : ℕ). record {
            at = n;
            start = start_after s.start i 0;
            code = first_code strict s.code (lent_pair text s.at i 0 ∷ []);
          }) f
      by-step (past e l) = absurd (omega arith)
  walk-in (i ∷ v ∷ ls) s h = by-step (stepped s i v) (λ s' k. walk-in ls s' k)
    where
      by-step : CheckStepped s i v
          → ((s' : Checking) → s'.at + sum ls ≡ length text → check_pairs strict text ls s' ≡ ended s' ls)
          → check_pairs strict text ls (check_step strict text s i v) ≡ ended s (i ∷ v ∷ ls)
      by-step (inside l e) walk =
          ap (check_pairs strict text ls) e
          ∙ walk _ (omega arith)
          ∙ ap (λ (ps : List Pair). record {
            at = length text;
            start = starts_after (start_after s.start i v) ls;
            code = first_code strict s.code ps;
          })
          (sym (cut-cons text ls s.at i v))
      by-step (past e l) walk = absurd (omega arith)

  -- a pair past the text stays refused
  past-step : (s : Checking) (i v : ℕ) → CheckStepped s i v → s.code ≡ 31 → (check_step strict text s i v).code ≡ 31
  past-step s i v (inside l e) h =
      ap (λ (r : Checking). r.code) e
      ∙ if-false _ _ _ (ne_eqb s.code 0 (λ z. omega arith))
      ∙ h
  past-step s i v (past e l) h = ap (λ (r : Checking). r.code) e

  past-stays : (lengths : List ℕ) (s : Checking) → s.code ≡ 31 → (check_pairs strict text lengths s).code ≡ 31
  unfolding check_pairs
  past-stays [] s h = h
  past-stays (i ∷ []) s h = past-step s i 0 (stepped s i 0) h
  past-stays (i ∷ v ∷ ls) s h = past-stays ls (check_step strict text s i v) (past-step s i v (stepped s i v) h)

  -- a run that ends with the text was over lengths that add up to it, or a pair ran past
  pub walk-out : (lengths : List ℕ) (s : Checking) → (check_pairs strict text lengths s).at ≡ length text
      → (s.at + sum lengths ≡ length text) ⊎ ((check_pairs strict text lengths s).code ≡ 31)
  unfolding check_pairs sum
  walk-out [] s h = inl (omega arith)
  walk-out (i ∷ []) s h = by-step (stepped s i 0)
    where
      by-step : CheckStepped s i 0 → (s.at + (i + 0) ≡ length text) ⊎ ((check_step strict text s i 0).code ≡ 31)
      by-step (inside l e) = let f = ap (λ (r : Checking). r.at) e in inl (omega arith)
      by-step (past e l) = inr (ap (λ (r : Checking). r.code) e)
  walk-out (i ∷ v ∷ ls) s h = by-step (stepped s i v) (walk-out ls (check_step strict text s i v) h)
    where
      by-step : CheckStepped s i v
          → ((check_step strict text s i v).at + sum ls ≡ length text) ⊎ ((check_pairs strict text ls (check_step strict text s i v)).code ≡ 31)
          → (s.at + (i + (v + sum ls)) ≡ length text) ⊎ ((check_pairs strict text ls (check_step strict text s i v)).code ≡ 31)
      by-step (inside l e) (inl k) = let f = ap (λ (r : Checking). r.at) e in inl (omega arith)
      by-step (inside l e) (inr k) = inr k
      by-step (past e l) k = inr (past-stays ls (check_step strict text s i v) (ap (λ (r : Checking). r.code) e))

-- the length of accepted pairs: each has a header byte more
pub laid-length : (strict : Bool) (lengths text bytes : List ℕ) → laid strict (cut_pairs lengths text) ≡ gives bytes
    → sum lengths ≤ length text
    → length bytes ≡ sum lengths + length lengths / 2
unfolding cut_pairs sum
laid-length strict [] text bytes e h = let f : bytes ≡ [] = cc in ap length f
laid-length strict (i ∷ []) text bytes e h =
    let p : Pair = record { identifier = take i text; value = [] } in
    let k = laid_cons strict p [] bytes e in
    absurd (omega (arith, (pair-passed strict p k.accepts).value_some))
laid-length strict (i ∷ v ∷ ls) text bytes e h =
    let k = laid_cons strict (record { identifier = take i text; value = take v (drop i text) })
    (cut_pairs ls (drop (i + v) text)) bytes e in
    let r : length k.rest ≡ sum ls + length ls / 2 = laid-length strict ls (drop (i + v) text) k.rest k.rest_is
    (omega (arith, length-drop (i + v) text)) in
    let a : length (take i text) ≡ i = length-take-le i text (omega arith) in
    let b : length (take v (drop i text)) ≡ v = length_part v i text (omega arith) in
    let f : length bytes ≡ suc (length ((take i text ++ take v (drop i text)) ++ k.rest)) = ap length k.bytes_are in
    let g : length (i ∷ v ∷ ls) ≡ suc (suc (length ls)) = refl in
    omega (arith, length-append (take i text) (take v (drop i text)), length-append (take i text ++ take v (drop i text)) k.rest)

-- lent pairs, where their lengths add up to the text and where not
module _ (strict : Bool) (text lengths : List ℕ) where
  pub lent-31 : (sum lengths ≡ length text → ⊥) → lent_bytes strict 3 text lengths ≡ refuses 31 0
  unfolding lent_fields
  lent-31 n = ap (λ (a : Answer Fields). bind a (fields_bytes strict)) (if-false _ _ _ (ne_eqb _ _ n))

  pub lent-pairs : sum lengths ≡ length text → lent_bytes strict 3 text lengths ≡ pairs_bytes strict (cut_pairs lengths text)
  unfolding lent_fields fields_bytes
  lent-pairs h = ap (λ (a : Answer Fields). bind a (fields_bytes strict)) (if-true _ _ _ (eq-eqb _ _ h))

  pub lent_laid : sum lengths ≡ length text → 0 < length lengths → lent_bytes strict 3 text lengths ≡ laid strict (cut_pairs lengths text)
  lent_laid h some = lent-pairs h ∙ pairs-laid strict (cut_pairs lengths text) (cut-some lengths text some)

-- what the end of a run says of the fields
module _ (strict : Bool) (text lengths : List ℕ) (s : Checking) (q : s ≡ check_pairs strict text lengths check_start) where
  ran-in : sum lengths ≡ length text → s ≡ ended strict text check_start lengths
  ran-in h = q ∙ walk-in strict text lengths check_start (zero-add (sum lengths) ∙ h)

  pub pairs-31 : (s.at ≡ length text → ⊥) → lent_bytes strict 3 text lengths ≡ refuses 31 0
  pairs-31 n = lent-31 strict text lengths (λ h. n (ap (λ (r : Checking). r.at) (ran-in h)))

  pub pairs-23 : s.at ≡ length text → length lengths ≡ 0 → lent_bytes strict 3 text lengths ≡ refuses 23 0
  unfolding check_pairs pairs_bytes cut_pairs sum
  pairs-23 e z = by_lengths lengths z q (lent-pairs strict text lengths)
    where
      by_lengths : (ls : List ℕ) → length ls ≡ 0 → s ≡ check_pairs strict text ls check_start
          → (sum ls ≡ length text → lent_bytes strict 3 text lengths ≡ pairs_bytes strict (cut_pairs ls text))
          → lent_bytes strict 3 text lengths ≡ refuses 23 0
      by_lengths [] y f g = g (sym (ap (λ (r : Checking). r.at) f) ∙ e)
      by_lengths (i ∷ ls) y f g = absurd (omega arith)

  module _ (e : s.at ≡ length text) (some : 0 < length lengths) where
    ran-past : (sum lengths ≡ length text → ⊥) → s.code ≡ 31
    ran-past n =
        ⊎_elim
        (λ h. absurd (n (sym (zero-add (sum lengths)) ∙ h)))
        (λ k. ap (λ (r : Checking). r.code) q ∙ k)
        (walk-out strict text lengths check_start (sym (ap (λ (r : Checking). r.at) q) ∙ e))

    all-answered : sum lengths ≡ length text → Answered strict (laid strict (cut_pairs lengths text)) s.code
    all-answered h =
        subst (Answered strict (laid strict (cut_pairs lengths text))) (sym (ap (λ (r : Checking). r.code) (ran-in h)))
        (answered strict (cut_pairs lengths text))

    pub pairs_first : (s.code ≡ 0 → ⊥) → lent_bytes strict 3 text lengths ≡ refuses s.code 0
    pairs_first n = by-sum (eqb (sum lengths) (length text)) refl
      where
        by-sum : (b : Bool) → eqb (sum lengths) (length text) ≡ b → lent_bytes strict 3 text lengths ≡ refuses s.code 0
        by-sum true t = lent_laid strict text lengths (eqb-true _ _ t) some ∙ (all-answered (eqb-true _ _ t)).refused n
        by-sum false t =
            lent-31 strict text lengths (eqb-false _ _ t) ∙ ap (λ (code : ℕ). refuses code 0) (sym (ran-past (eqb-false _ _ t)))

    pub pairs-size : s.code ≡ 0 → map length (lent_bytes strict 3 text lengths) ≡ gives (length text + length lengths / 2)
    pairs-size z = by-sum (eqb (sum lengths) (length text)) refl
      where
        by-sum : (b : Bool) → eqb (sum lengths) (length text) ≡ b → map length (lent_bytes strict 3 text lengths)
            ≡ gives (length text + length lengths / 2)
        by-sum true t =
            let h = eqb-true _ _ t in
            let a = (all-answered h).accepted z in
            ap (map length) (lent_laid strict text lengths h some ∙ a.1)
            ∙ ap gives (laid-length strict lengths text a.0 a.1 (omega arith) ∙ ap (λ (n : ℕ). n + length lengths / 2) h)
        by-sum false t = let k = ran-past (eqb-false _ _ t) in absurd (omega arith)
