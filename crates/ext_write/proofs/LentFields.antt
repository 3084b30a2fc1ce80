-- Lent fields of each kind.
use Prim.Native.Nat.{ℕ}
use mathlib.Core.Path.{◌≡◌, ◌∙◌, sym, ap, refl, subst⁻¹}
use mathlib.Core.Bool.{Bool, true, false}
use mathlib.Core.Logic.{◌⊎◌, inl, inr}
use mathlib.Core.List.{List, [], ◌∷◌}
use lib.Dec.{eqb}
use lib.ListN.{length}
use borrow.Author.Tests.{eqb-true, eqb-false}
use Rattle.error.specs.Answer.{Answer, gives, refuses, bind}
use Rattle.laws.proofs.Tests.{if-false, zero_one}
use Rattle.ext.specs.Kinds.{Fields, kind_number}
use Rattle.ext_write.specs.Write.{octets_bytes, octet_bytes, cut_pairs, sum, lent_fields, lent_bytes, fields_bytes}
use Rattle.ext.specs.declared.ExtFieldType.{ExtFieldType}
use Rattle.ext.specs.declared.ExtFieldType.TheVariants.{Reserved01, Reserved10}
use Rattle.ext_write.proofs.PairsLaid.{laid, pairs-laid, pairs-some}
use Rattle.ext_write.proofs.CheckRun.{lent-31, lent-pairs}

-- kinds 01 and 10
pub record Single (kind : ℕ) : Type 0 where
  pub not0 : eqb kind 0 ≡ false
  pub not3 : eqb kind 3 ≡ false

pub single : (t : ExtFieldType) → (t ≡ Reserved01) ⊎ (t ≡ Reserved10) → Single (kind_number t)
single t (inl e) = subst⁻¹ (λ (u : ExtFieldType). Single (kind_number u)) e (record { not0 = refl; not3 = refl })
single t (inr e) = subst⁻¹ (λ (u : ExtFieldType). Single (kind_number u)) e (record { not0 = refl; not3 = refl })

module _ (strict : Bool) (lengths : List ℕ) where
  pub lent-octets : (text : List ℕ) (kind : ℕ) → kind ≡ 0 → lent_bytes strict kind text lengths ≡ octets_bytes text
  unfolding lent_fields fields_bytes
  lent-octets text kind e = ap (λ (k : ℕ). lent_bytes strict k text lengths) e

  pub lent-3 : (text : List ℕ) (kind : ℕ) → kind ≡ 3 → lent_bytes strict 3 text lengths ≡ lent_bytes strict kind text lengths
  lent-3 text kind e = ap (λ (k : ℕ). lent_bytes strict k text lengths) (sym e)

  module _ (kind : ℕ) (single : Single kind) where
    pub lent-octet : (text : List ℕ) → lent_bytes strict kind text lengths ≡ octet_bytes text
    unfolding lent_fields fields_bytes octet_bytes
    lent-octet [] = ap (λ (a : Answer Fields). bind a (fields_bytes strict))
        (if-false _ _ _ single.not0 ∙ if-false _ _ _ single.not3)
    lent-octet (o ∷ os) = ap (λ (a : Answer Fields). bind a (fields_bytes strict))
        (if-false _ _ _ single.not0 ∙ if-false _ _ _ single.not3)

  -- what accepted pairs are
  pub pairs-accepted : (text bytes : List ℕ) → lent_bytes strict 3 text lengths ≡ gives bytes
      → (sum lengths ≡ length text) × (laid strict (cut_pairs lengths text) ≡ gives bytes)
  pairs-accepted text bytes h = by-sum (eqb (sum lengths) (length text)) refl
    where
      by-sum : (b : Bool) → eqb (sum lengths) (length text) ≡ b → (sum lengths ≡ length text)
          × (laid strict (cut_pairs lengths text) ≡ gives bytes)
      by-sum true t =
          let e = eqb-true _ _ t in (
            e,
            sym (pairs-laid strict (cut_pairs lengths text)
                (pairs-some strict (cut_pairs lengths text) bytes (sym (lent-pairs strict text lengths e) ∙ h)))
                ∙ sym (lent-pairs strict text lengths e) ∙ h,
          )
      by-sum false t = let z : refuses 31 0 ≡ gives bytes = sym (lent-31 strict text lengths (eqb-false _ _ t)) ∙ h in zero_one (cc)
