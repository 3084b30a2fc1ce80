-- The bytes of pairs by one recursion: each pair says whether one more follows.
use Prim.Native.Nat.{ℕ, suc, ◌≤◌, ◌<◌}
use mathlib.Core.Path.{◌≡◌, ◌∙◌, sym, ap}
use mathlib.Core.Bool.{Bool, true, false}
use mathlib.Core.List.{List, [], ◌∷◌, ◌++◌, append-nil}
use native.Mathlib.Omega.{arith}
use lib.Dec.{ltb}
use lib.ListN.{length, length-append}
use borrow.Author.Tests.{lt-ltb}
use Rattle.error.specs.Answer.{Answer, gives, bind, map}
use Rattle.laws.proofs.Answers.{bind-gives, map_gives}
use Rattle.laws.proofs.Tests.{zero_one}
use Rattle.ext.specs.Kinds.{Pair}
use Rattle.ext_write.specs.Write.{check_pair, pair_bytes, pairs_bytes}

abbrev pub laid : Bool → List Pair → Answer (List ℕ)
laid strict [] = gives []
laid strict (p ∷ ps) = bind (check_pair strict p) (λ u. map (λ rest. pair_bytes (ltb 0 (length ps)) p ++ rest) (laid strict ps))

pub pairs-laid : (strict : Bool) (ps : List Pair) → 0 < length ps → pairs_bytes strict ps ≡ laid strict ps
unfolding pairs_bytes
pairs-laid strict [] h = absurd (omega arith)
pairs-laid strict (p ∷ []) h = ap (λ (bytes : List ℕ). bind (check_pair strict p) (λ u. gives bytes)) (sym (append-nil (pair_bytes false p)))
pairs-laid strict (p ∷ p' ∷ ps) h =
    ap (λ (a : Answer (List ℕ)). bind (check_pair strict p) (λ u. map (λ rest. pair_bytes true p ++ rest) a))
    (pairs-laid strict (p' ∷ ps) (omega arith))
    ∙ ap
    (λ (b : Bool). bind (check_pair strict p) (λ u. map (λ rest. pair_bytes b p ++ rest) (laid strict (p' ∷ ps))))
    (sym (lt-ltb 0 (length (p' ∷ ps)) (omega arith)))

pub pairs-some : (strict : Bool) (ps : List Pair) (bytes : List ℕ) → pairs_bytes strict ps ≡ gives bytes → 0 < length ps
unfolding pairs_bytes
pairs-some strict [] bytes e = zero_one (cc)
pairs-some strict (p ∷ ps) bytes e = omega arith

-- what is accepted: a first pair, and those after it
pub record Cons (strict : Bool) (p : Pair) (ps : List Pair) (bytes : List ℕ) : Type 0 where
  pub accepts : check_pair strict p ≡ gives tt
  pub rest : List ℕ
  pub rest_is : laid strict ps ≡ gives rest
  pub bytes_are : bytes ≡ pair_bytes (ltb 0 (length ps)) p ++ rest

pub laid_cons : (strict : Bool) (p : Pair) (ps : List Pair) (bytes : List ℕ) → laid strict (p ∷ ps) ≡ gives bytes → Cons strict p ps bytes
laid_cons strict p ps bytes e =
    let b = bind-gives (check_pair strict p) _ bytes e in
    let m = map_gives (λ (rest : List ℕ). pair_bytes (ltb 0 (length ps)) p ++ rest) (laid strict ps) bytes b.2 in
    record { accepts = b.1; rest = m.0; rest_is = m.1; bytes_are = sym m.2 }

-- each pair has bytes of its own
pub laid-count : (strict : Bool) (ps : List Pair) (bytes : List ℕ) → laid strict ps ≡ gives bytes → length ps ≤ length bytes
laid-count strict [] bytes e = omega arith
laid-count strict (p ∷ ps) bytes e =
    let k = laid_cons strict p ps bytes e in
    let c = laid-count strict ps k.rest k.rest_is in
    let l : length bytes ≡ suc (length ((p.identifier ++ p.value) ++ k.rest)) = ap length k.bytes_are in
    omega (arith, length-append (p.identifier ++ p.value) k.rest)
