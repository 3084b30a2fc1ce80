-- What putting accepted fields comes to: their bytes at the front of the output, and the rest as it was.
use Prim.Native.Nat.{ℕ, suc, ◌+◌, ◌≤◌}
use mathlib.Core.Path.{◌≡◌, ◌∙◌, sym, ap, refl}
use mathlib.Core.Bool.{Bool, true}
use mathlib.Core.List.{List, [], ◌∷◌, ◌++◌}
use native.Mathlib.Omega.{arith}
use lib.Dec.{ltb}
use lib.ListN.{length, take, drop, length-append}
use lib.Seq.{sets, length-sets}
use Rattle.error.specs.Answer.{gives}
use Rattle.laws.proofs.Lists.{length_part}
use Rattle.laws.proofs.Runs.{sets-append}
use Rattle.ext.specs.Kinds.{Pair}
use Rattle.ext_write.specs.Write.{check_pair, pair_bytes, cut_pairs, sum}
use Rattle.ext_write.specs.Internal.Steps.{lent_pair, can_put, put_step, put_output, put_pairs}
use Rattle.ext_write.specs.declared.PairsPut.{PairsPut}
use Rattle.ext_write.proofs.PairVerdict.{pair-passed}
use Rattle.ext_write.proofs.PairSteps.{room, put-bytes, put_next}
use Rattle.ext_write.proofs.PairsLaid.{laid, laid_cons}
use Rattle.ext_write.proofs.CheckRun.{cut-cons, cut-more}

-- what is read off an accepted first pair of lengths i and v
module _ (strict : Bool) (text : List ℕ) (at i v : ℕ) (a : check_pair strict (lent_pair text at i v) ≡ gives tt)
    (t : at + i + v ≤ length text) where
  identifier-length : length (take i (drop at text)) ≡ i
  identifier-length = length_part i at text (omega arith)

  value-length : length (take v (drop (at + i) text)) ≡ v
  value-length = length_part v (at + i) text t

  pub short-identifier : i ≤ 7
  short-identifier = omega (arith, (pair-passed strict (lent_pair text at i v) a).identifier_most, identifier-length)

  pub short-value : v ≤ 15
  short-value = omega (arith, (pair-passed strict (lent_pair text at i v) a).value_most, value-length)

  pub pair-length : (more : Bool) → length (pair_bytes more (lent_pair text at i v)) ≡ 1 + i + v
  pair-length more =
      let e : length (pair_bytes more (lent_pair text at i v)) ≡ suc (length (take i (drop at text) ++ take v (drop (at + i) text))) = refl in
      omega (arith, length-append (take i (drop at text)) (take v (drop (at + i) text)), identifier-length, value-length)

-- one pair more
module _ (strict : Bool) (text out : List ℕ) (s : PairsPut) (i v : ℕ) (ls rest : List ℕ)
    (a : check_pair strict (lent_pair text s.at i v) ≡ gives tt) (t : s.at + i + v ≤ length text)
    (r : s.to + (1 + i + v) + length rest ≤ length out) (more : Bool) where
  fits : can_put text out s i v ≡ true
  fits = room text out s i v (short-identifier strict text s.at i v a t) (short-value strict text s.at i v a t) t (omega arith)

  pub put_one : put_pairs text ls (put_output text out s i v more) (put_step text out s i v)
      ≡ put_pairs text ls (sets out s.to (pair_bytes more (lent_pair text s.at i v)))
      (record { at = s.at + i + v; to = s.to + 1 + i + v })
  put_one = rw (put-bytes text out s i v more fits, put_next text out s i v fits) refl

  pub put-joined : sets (sets out s.to (pair_bytes more (lent_pair text s.at i v))) (s.to + 1 + i + v) rest
      ≡ sets out s.to (pair_bytes more (lent_pair text s.at i v) ++ rest)
  put-joined =
      let e : s.to + 1 + i + v ≡ s.to + length (pair_bytes more (lent_pair text s.at i v)) =
      omega (arith, pair-length strict text s.at i v a t more) in
      rw e (sets-append out s.to (pair_bytes more (lent_pair text s.at i v)) rest)

module _ (strict : Bool) (text : List ℕ) where
  pub put_all : (lengths out : List ℕ) (s : PairsPut) (bytes : List ℕ)
      → laid strict (cut_pairs lengths (drop s.at text)) ≡ gives bytes → s.at + sum lengths ≤ length text
      → s.to + length bytes ≤ length out
      → put_pairs text lengths out s ≡ sets out s.to bytes
  unfolding put_pairs sum cut_pairs
  put_all [] out s bytes e t r = let f : [] ≡ bytes = cc in ap (sets out s.to) f
  put_all (i ∷ []) out s bytes e t r =
      let p : Pair = record { identifier = take i (drop s.at text); value = [] } in
      let k = laid_cons strict p [] bytes e in
      absurd (omega (arith, (pair-passed strict p k.accepts).value_some))
  put_all (i ∷ v ∷ ls) out s bytes e t r =
      let p : Pair = lent_pair text s.at i v in
      let ps = cut_pairs ls (drop (s.at + i + v) text) in
      let k = laid_cons strict p ps bytes (ap (laid strict) (sym (cut-cons text ls s.at i v)) ∙ e) in
      let more = ltb 0 (length ls) in
      let b : bytes ≡ pair_bytes more p ++ k.rest = k.bytes_are
      ∙ ap (λ (m : Bool). pair_bytes m p ++ k.rest) (cut-more ls (drop (s.at + i + v) text)) in
      let l : s.at + i + v ≤ length text = omega arith in
      let n : s.to + (1 + i + v) + length k.rest ≤ length out
      = omega (arith, ap length b, length-append (pair_bytes more p) k.rest, pair-length strict text s.at i v k.accepts l more) in
      put_one strict text out s i v ls k.rest k.accepts l n more
      ∙ put_all ls (sets out s.to (pair_bytes more p)) (record { at = s.at + i + v; to = s.to + 1 + i + v }) k.rest k.rest_is
      (omega arith)
      (omega (arith, length-sets out s.to (pair_bytes more p)))
      ∙ put-joined strict text out s i v ls k.rest k.accepts l n more
      ∙ ap (sets out s.to) (sym b)
