-- What is written is read back: fields within the ceiling, after any prefix and before any rest; strictly where they were written strictly.
use Prim.Native.Nat.{ℕ, suc, ◌+◌}
use mathlib.Core.Path.{◌≡◌, ◌∙◌, sym, ap, refl, subst}
use mathlib.Core.Bool.{Bool, true, false}
use mathlib.Core.List.{List, [], ◌∷◌, ◌++◌}
use mathlib.Core.Logic.{inl, inr}
use native.Mathlib.Nat.{add-zero}
use native.Mathlib.Omega.{arith}
use lib.ListN.{length, drop, length-append}
use lib.Seq.{drop-append_seam}
use Rattle.error.specs.Answer.{gives, map}
use Rattle.laws.proofs.Tests.{zero_one}
use Rattle.ext.specs.Kinds.{Pair, Fields, none, bitfield, reserved, pairs}
use Rattle.ext.specs.Read.{read_octets, read_octet, read_fields}
use Rattle.ext_write.specs.Write.{octets_bytes, check_pair, pairs_bytes, fields_bytes}
use Rattle.ext.specs.Classes.{all, is_alpha_digit}
use Rattle.ext_write.specs.Ceiling.{kind_of, Readable, OfKind}
use Rattle.ext_write.proofs.OctetsWritten.{accepted-small, accepted-some, accepted-bytes, length-continued}
use Rattle.ext_write.proofs.PairsLaid.{pairs-laid, pairs-some, laid-count}
use Rattle.ext_write.proofs.OctetsBack.{octets-back}
use Rattle.ext_write.proofs.PairsBack.{pairs-back}

abbrev single : ℕ → ℕ × ℕ → Fields × ℕ
single kind x = (reserved kind x.0, x.1)

module _ (strict strict' : Bool) (ease : strict' ≡ true → strict ≡ true) (q bytes τ : List ℕ) where
  abbrev file : List ℕ
  file = q ++ (bytes ++ τ)

  octet-back : (kind octet : ℕ) → octet ∷ [] ≡ bytes
      → map (single kind) (read_octet (drop (length q) file) (length q)) ≡ gives (reserved kind octet, length q + length bytes)
  unfolding read_octet
  octet-back kind octet e =
      ap (λ (s : List ℕ). map (single kind) (read_octet s (length q)))
      (drop-append_seam q (bytes ++ τ) ∙ ap (λ (w : List ℕ). w ++ τ) (sym e))
      ∙ ap (λ (w : List ℕ). gives (reserved kind octet, length q + length w)) e

  pub read_back : (f : Fields) → OfKind f → Readable f → fields_bytes strict f ≡ gives bytes
      → read_fields strict' true (kind_of f) file (length q) ≡ gives (f, length q + length bytes)
  unfolding fields_bytes read_fields
  read_back none k r e = absurd k
  read_back (bitfield octets) k r e =
      let b = accepted-bytes octets bytes e in
      let n : length bytes ≡ length octets = ap length b ∙ length-continued octets in
      ap (λ (s : List ℕ). map (λ (x : List ℕ × ℕ). (bitfield x.0, x.1)) (read_octets s (length q) (length q)))
      (drop-append_seam q (bytes ++ τ) ∙ ap (λ (w : List ℕ). w ++ τ) b)
      ∙ ap (map (λ (x : List ℕ × ℕ). (bitfield x.0, x.1)))
      (octets-back octets τ (length q) (length q) (accepted-some octets bytes e) (accepted-small octets bytes e) (omega arith))
      ∙ ap (λ (k : ℕ). gives (bitfield octets, length q + k)) (sym n)
  read_back (reserved kind octet) (inl h) r e =
      subst (λ (k : ℕ). read_fields strict' true k file (length q) ≡ gives (reserved k octet, length q + length bytes)) (sym h)
      (octet-back 1 octet (cc))
  read_back (reserved kind octet) (inr h) r e =
      subst (λ (k : ℕ). read_fields strict' true k file (length q) ≡ gives (reserved k octet, length q + length bytes)) (sym h)
      (octet-back 2 octet (cc))
  read_back (pairs ps) k r e =
      let some = pairs-some strict ps bytes e in
      let l = sym (pairs-laid strict ps some) ∙ e in
      ap (map (λ (x : List Pair × ℕ). (pairs x.0, x.1)))
      (pairs-back strict strict' ease file (length q) ps bytes q τ 0 (suc (length file)) some l refl (sym (add-zero (length q))) r
      (omega (arith, laid-count strict ps bytes l, length-append q (bytes ++ τ), length-append bytes τ)))

-- instances between two bytes: the pair k = 12 of card P5, strictly; two octets of kind 00; the octet of kind 10
example-pairs : read_fields true true 3 (0 ∷ 18 ∷ 107 ∷ 49 ∷ 50 ∷ 9 ∷ []) 1
    ≡ gives (pairs (record { identifier = 107 ∷ []; value = 49 ∷ 50 ∷ [] } ∷ []), 5)
unfolding fields_bytes pairs_bytes check_pair all is_alpha_digit
example-pairs =
    read_back true true (λ e. refl) (0 ∷ []) (18 ∷ 107 ∷ 49 ∷ 50 ∷ []) (9 ∷ [])
    (pairs (record { identifier = 107 ∷ []; value = 49 ∷ 50 ∷ [] } ∷ [])) tt (omega arith, tt) refl

example-octets : read_fields false true 0 (0 ∷ 129 ∷ 2 ∷ 9 ∷ []) 1 ≡ gives (bitfield (1 ∷ 2 ∷ []), 3)
unfolding fields_bytes octets_bytes
example-octets = read_back false false (λ e. e) (0 ∷ []) (129 ∷ 2 ∷ []) (9 ∷ []) (bitfield (1 ∷ 2 ∷ [])) tt (omega arith) refl

example-octet : read_fields false true 2 (0 ∷ 200 ∷ 9 ∷ []) 1 ≡ gives (reserved 2 200, 2)
unfolding fields_bytes
example-octet = read_back true false (λ e. zero_one (cc)) (0 ∷ []) (200 ∷ []) (9 ∷ []) (reserved 2 200) (inr refl) tt refl
