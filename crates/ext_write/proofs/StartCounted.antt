-- Where the next pair starts, as a run of checks counts it: the bytes of the pairs before it, as far as a ceiling of 4,096 can ask.
use Prim.Native.Nat.{ℕ, suc, ◌+◌, ◌/◌, ◌%◌, ◌≤◌, ◌<◌}
use mathlib.Core.Path.{◌≡◌, ◌∙◌, refl, subst, subst⁻¹}
use mathlib.Core.Bool.{Bool, true, false}
use mathlib.Core.List.{List, [], ◌∷◌}
use native.Mathlib.Nat.{zero-add}
use native.Mathlib.Omega.{arith}
use lib.Dec.{ltb}
use lib.ListN.{length, take, drop}
use borrow.Author.Tests.{ltb-true, ltb-false}
use Rattle.error.specs.Choice.{if}
use Rattle.error.specs.Answer.{gives}
use Rattle.ext.specs.Kinds.{Pair}
use Rattle.ext_write.specs.Write.{cut_pairs, sum, lent_bytes}
use Rattle.ext_write.specs.Internal.Steps.{start_after, check_start, check_pairs}
use Rattle.ext_write.specs.Internal.Steps.{Checking}
use Rattle.ext_write.proofs.PairVerdict.{pair-passed}
use Rattle.ext_write.proofs.PairsLaid.{laid, laid_cons}
use Rattle.ext_write.proofs.CheckRun.{starts_after, walk-in, laid-length}
use Rattle.ext_write.proofs.LentFields.{pairs-accepted}

-- a count of bytes that stops once it has passed the ceiling
pub record CountedToCeiling (count total : ℕ) : Type 0 where
  pub exact : total < 4096 → count ≡ total
  pub over : 4096 ≤ total → 4096 ≤ count

counted_step : (count total i v : ℕ) → CountedToCeiling count total → CountedToCeiling (start_after count i v) (total + 1 + i + v)
counted_step count total i v c = by-test (ltb count 4096) refl
  where
    by-test : (b : Bool) → ltb count 4096 ≡ b → CountedToCeiling (if b (count + 1 + i + v) count) (total + 1 + i + v)
    by-test true t =
        let below = ltb-true count 4096 t in
        record { exact = λ h. omega (arith, c.exact (omega arith)); over = λ h. by_total (ltb total 4096) refl below h }
      where
        by_total : (b : Bool) → ltb total 4096 ≡ b → count < 4096 → 4096 ≤ total + 1 + i + v → 4096 ≤ count + 1 + i + v
        by_total true e below h = omega (arith, c.exact (ltb-true total 4096 e))
        by_total false e below h = absurd (omega (arith, c.over (ltb-false total 4096 e)))
    by-test false t =
        let above = ltb-false count 4096 t in
        record { exact = λ h. absurd (omega (arith, c.exact (omega arith))); over = λ h. above }

-- so many bytes come before the pair behind all
starts-counted : (lengths : List ℕ) (start total : ℕ) → CountedToCeiling start total
    → CountedToCeiling (starts_after start lengths) (total + sum lengths + (length lengths + 1) / 2)
unfolding starts_after sum
starts-counted [] start total c = let e : total ≡ total + 0 + (0 + 1) / 2 = omega arith in subst (CountedToCeiling start) e c
starts-counted (i ∷ []) start total c =
    let e : total + 1 + i + 0 ≡ total + (i + 0) + (1 + 1) / 2 = omega arith in
    subst (CountedToCeiling (start_after start i 0)) e (counted_step start total i 0 c)
starts-counted (i ∷ v ∷ ls) start total c =
    let e : total + 1 + i + v + sum ls + (length ls + 1) / 2 ≡ total + (i + (v + sum ls)) + (suc (suc (length ls)) + 1) / 2 = omega arith in
    subst (CountedToCeiling (starts_after (start_after start i v) ls)) e
    (starts-counted ls (start_after start i v) (total + 1 + i + v) (counted_step start total i v c))

-- Accepted pairs have a value each, so an identifier's length does not stand alone.
laid-even : (strict : Bool) (lengths text bytes : List ℕ) → laid strict (cut_pairs lengths text) ≡ gives bytes → length lengths % 2 ≡ 0
unfolding cut_pairs
laid-even strict [] text bytes e = refl
laid-even strict (i ∷ []) text bytes e =
    let p : Pair = record { identifier = take i text; value = [] } in
    absurd (omega (arith, (pair-passed strict p (laid_cons strict p [] bytes e).accepts).value_some))
laid-even strict (i ∷ v ∷ ls) text bytes e =
    let p : Pair = record { identifier = take i text; value = take v (drop i text) } in
    let k = laid_cons strict p (cut_pairs ls (drop (i + v) text)) bytes e in
    let r = laid-even strict ls (drop (i + v) text) k.rest k.rest_is in
    let g : length (i ∷ v ∷ ls) ≡ suc (suc (length ls)) = refl in
    omega arith

-- Behind a run over accepted pairs the next one would start behind their bytes, as far as a ceiling can ask.
pub start-counted : (strict : Bool) (text lengths bytes : List ℕ) → lent_bytes strict 3 text lengths ≡ gives bytes
    → CountedToCeiling (check_pairs strict text lengths check_start).start (length bytes)
start-counted strict text lengths bytes e =
    let a = pairs-accepted strict lengths text bytes e in
    let h = a.0 in
    let l = laid-length strict lengths text bytes a.1 (omega arith) in
    let even = laid-even strict lengths text bytes a.1 in
    let n : 0 + sum lengths + (length lengths + 1) / 2 ≡ length bytes = omega arith in
    subst (CountedToCeiling (check_pairs strict text lengths check_start).start) n
    (subst⁻¹ (λ (r : Checking). CountedToCeiling r.start (0 + sum lengths + (length lengths + 1) / 2))
    (walk-in strict text lengths check_start (zero-add (sum lengths) ∙ h))
    (starts-counted lengths 0 0 (record { exact = λ z. refl; over = λ z. z })))
