-- Octets of kind 00 to be written.
use Prim.Native.Nat.{ℕ, zero, suc, ◌+◌, ◌≤◌, ◌<◌}
use mathlib.Core.Path.{◌≡◌, ◌∙◌, sym, ap, refl}
use mathlib.Core.Bool.{Bool}
use mathlib.Core.List.{List, [], ◌∷◌}
use native.Mathlib.Nat.{zero-add}
use native.Mathlib.Numerals.{add-one}
use native.Mathlib.Omega.{arith}
use lib.Dec.{ltb}
use lib.ListN.{length, get_or, drop, set, length-set, drop_of_length-le}
use lib.Seq.{sets}
use borrow.Author.Tests.{lt-ltb, le-ltb, ltb-true}
use Rattle.error.specs.Choice.{if}
use Rattle.error.specs.Answer.{Answer, gives, refuses, map}
use Rattle.laws.proofs.Answers.{map_gives, when}
use Rattle.laws.proofs.Lists.{drop_at}
use Rattle.laws.proofs.Tests.{if-true, if-false, zero_one}
use Rattle.ext_write.specs.Write.{octets_bytes}
use Rattle.ext_write.specs.Internal.Steps.{Small, continued}
use Rattle.ext_write.proofs.PairSteps.{left-more}

pub length-continued : (s : List ℕ) → length (continued s) ≡ length s
unfolding continued
length-continued [] = refl
length-continued (o ∷ os) = ap suc (length-continued os)

-- octets of 7 bits are accepted
pub octets-small : (s : List ℕ) → 0 < length s → Small s → octets_bytes s ≡ gives (continued s)
unfolding octets_bytes continued
octets-small [] h k = absurd (omega arith)
octets-small (o ∷ []) h k = if-true _ _ _ (lt-ltb o 128 (k 0 (omega arith))) ∙ ap (λ (n : ℕ). gives (n ∷ [])) (sym (zero-add o))
octets-small (o ∷ o' ∷ os) h k =
    if-true _ _ _ (lt-ltb o 128 (k 0 (omega arith)))
    ∙ ap (map (λ (bytes : List ℕ). (128 + o) ∷ bytes)) (octets-small (o' ∷ os) (omega arith) (λ i l. k (suc i) (omega arith)))
    ∙ ap (λ (b : Bool). gives ((if b 128 0 + o) ∷ continued (o' ∷ os))) (sym (lt-ltb 0 (length (o' ∷ os)) (omega arith)))

pub octets-length : (s : List ℕ) → 0 < length s → Small s → map length (octets_bytes s) ≡ gives (length s)
octets-length s h k = ap (map length) (octets-small s h k) ∙ ap gives (length-continued s)

pub octets-none : (s : List ℕ) → length s ≡ 0 → octets_bytes s ≡ refuses 23 0
unfolding octets_bytes
octets-none [] h = refl
octets-none (o ∷ os) h = absurd (omega arith)

-- the first octet with bit 7 is refused
pub octets-bad : (s : List ℕ) (i : ℕ) → i < length s → ((k : ℕ) → k < i → get_or s k 0 < 128) → 128 ≤ get_or s i 0
    → octets_bytes s ≡ refuses 24 0
unfolding octets_bytes
octets-bad [] i h k b = absurd (omega arith)
octets-bad (o ∷ []) zero h k b = if-false _ _ _ (le-ltb o 128 b)
octets-bad (o ∷ o' ∷ os) zero h k b = if-false _ _ _ (le-ltb o 128 b)
octets-bad (o ∷ []) (suc i) h k b = absurd (omega arith)
octets-bad (o ∷ o' ∷ os) (suc i) h k b =
    if-true _ _ _ (lt-ltb o 128 (k 0 (omega arith)))
    ∙ ap (map (λ (bytes : List ℕ). (128 + o) ∷ bytes)) (octets-bad (o' ∷ os) i (omega arith) (λ j l. k (suc j) (omega arith)) b)

-- what is accepted is octets of 7 bits
small-cons : (o : ℕ) (os : List ℕ) → o < 128 → Small os → Small (o ∷ os)
small-cons o os h k zero l = h
small-cons o os h k (suc i) l = k i (omega arith)

first_small : (o : ℕ) (a : Answer (List ℕ)) (bytes : List ℕ) → if (ltb o 128) a (refuses 24 0) ≡ gives bytes → (o < 128) × (a ≡ gives bytes)
first_small o a bytes e = let t = when (ltb o 128) 24 0 a bytes e in (ltb-true o 128 t.0, t.1)

pub accepted-small : (s bytes : List ℕ) → octets_bytes s ≡ gives bytes → Small s
unfolding octets_bytes
accepted-small [] bytes e = zero_one (cc)
accepted-small (o ∷ []) bytes e = small-cons o [] (first_small o _ bytes e).0 (λ i l. absurd (omega arith))
accepted-small (o ∷ o' ∷ os) bytes e =
    let f = first_small o _ bytes e in
    let m = map_gives _ (octets_bytes (o' ∷ os)) bytes f.1 in
    small-cons o (o' ∷ os) f.0 (accepted-small (o' ∷ os) m.0 m.1)

-- no octets are not accepted
pub accepted-some : (s bytes : List ℕ) → octets_bytes s ≡ gives bytes → 0 < length s
unfolding octets_bytes
accepted-some [] bytes e = zero_one (cc)
accepted-some (o ∷ os) bytes e = omega arith

-- what is accepted is written as `continued` says
pub accepted-bytes : (s bytes : List ℕ) → octets_bytes s ≡ gives bytes → bytes ≡ continued s
accepted-bytes s bytes e =
    let f = octets-small s (accepted-some s bytes e) (accepted-small s bytes e) in
    cc

-- octets being put, of which i are done
pub record Putting (text old out : List ℕ) (i : ℕ) : Type 0 where
  pub within : i ≤ length text
  pub same : length out ≡ length old
  pub rest : sets old 0 (continued text) ≡ sets out i (continued (drop i text))

module _ (text old out : List ℕ) (i : ℕ) (c : Putting text old out i) where
  pub octet-put : (byte : ℕ) → i < length text → byte ≡ if (ltb (i + 1) (length text)) 128 0 + get_or text i 0
      → Putting text old (set out i byte) (i + 1)
  unfolding continued
  octet-put byte h e =
      record {
        within = omega arith;
        same = length-set out i byte ∙ c.same;
        rest = c.rest ∙ rw (drop_at text i h, left-more text (i + 1), sym e, add-one i) refl;
      }

  pub octets-put : length text ≤ i → out ≡ sets old 0 (continued text)
  unfolding continued
  octets-put h = sym (c.rest ∙ rw (drop_of_length-le text h) refl)
