-- The span of fields that were read, in the direct form and byte by byte.
use Prim.Native.Nat.{ℕ, suc, ◌-◌}
use mathlib.Core.Path.{◌≡◌, ◌∙◌, refl, sym, ap, subst}
use mathlib.Core.List.{List}
use mathlib.Core.Bool.{Bool, true}
use lib.ListN.{length, drop}
use Rattle.error.specs.Answer.{Answer, gives, refuses, bind, map}
use Rattle.laws.proofs.Answers.{map_gives}
use Rattle.ext.specs.Kinds.{Fields, Span, span, span_of}
use Rattle.ext.specs.Read.{read_octets, read_octet, read_pairs, read_fields}
use Rattle.ext.specs.Internal.Bytewise.{fields_from}
use Rattle.ext.proofs.FieldsCases.{by_kind}
use Rattle.ext.proofs.Continuation.{pair_count, fields_in}

-- fields that were read are of the kind that was asked for
pub span-is : (strict : Bool) (kind : ℕ) (s : List ℕ) (at : ℕ) (r : Fields × ℕ) → read_fields strict true kind s at ≡ gives r
    → span_of at r ≡ span kind at (r.1 - at) (pair_count r.0)
span-is strict kind s at r e =
    by_kind strict kind s at (λ x. x ≡ gives r → span_of at r ≡ span kind at (r.1 - at) (pair_count r.0))
    (λ z q. let m = map_gives _ (read_octets (drop at s) at at) r q in is _ _ m.2 (ap (λ (k : ℕ). span k at (m.0.1 - at) 0) (sym z)))
    (λ z q.
    let m = map_gives _ (read_pairs (suc (length s)) strict s at at) r q in
    is _ _ m.2 (ap (λ (k : ℕ). span k at (m.0.1 - at) (length m.0.0)) (sym z)))
    (λ y z q. let m = map_gives _ (read_octet (drop at s) at) r q in is _ _ m.2 refl)
    e
  where
    is : (f : Fields) (end : ℕ) → (f, end) ≡ r → span_of at (f, end) ≡ span kind at (end - at) (pair_count f)
        → span_of at r ≡ span kind at (r.1 - at) (pair_count r.0)
    is f end p = subst (λ (x : Fields × ℕ). span_of at x ≡ span kind at (x.1 - at) (pair_count x.0)) p

-- the span from a start to where a reading ends
abbrev pub span_to : ℕ → ℕ → ℕ → ℕ → List ℕ → Answer Span
span_to kind start end count τ = gives (span kind start (end - start) count)

-- The span of fields, byte by byte.
pub spans : (strict : Bool) (kind : ℕ) (s : List ℕ) (at : ℕ)
    → map (span_of at) (read_fields strict true kind s at)
    ≡ fields_from strict true kind (drop at s) at (span_to kind at)
spans strict kind s at = each (read_fields strict true kind s at) refl ∙ sym (fields_in s _ strict true kind at)
  where
    each : (x : Answer (Fields × ℕ)) → read_fields strict true kind s at ≡ x
        → map (span_of at) x ≡ bind x (λ r. gives (span kind at (r.1 - at) (pair_count r.0)))
    each (gives r) e = ap gives (span-is strict kind s at r e)
    each (refuses code offset) e = refl
