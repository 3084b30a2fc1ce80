-- Extension bytes of a file whose header is whole: bytes behind it change nothing of them.
use Prim.Native.Nat.{ℕ, ◌+◌}
use mathlib.Core.Path.{◌≡◌, refl, sym, ap, ◌∙◌}
use mathlib.Core.Bool.{Bool, true, false, ◌&&◌}
use mathlib.Core.List.{List, [], ◌++◌}
use native.Mathlib.Omega.{arith}
use borrow.Author.Tests.{leb-false, lt-leb}
use lib.Dec.{ltb, leb, eqb}
use lib.ListN.{length, get_or, drop, length-append, get_or-append}
use lib.Seq.{slice, take-append-le}
use Rattle.error.specs.Choice.{if}
use Rattle.error.specs.Answer.{Answer, gives, refuses, bind, map}
use Rattle.laws.proofs.Answers.{bind-gives, map_gives}
use Rattle.mbi.specs.Read.{read_mbi}
use Rattle.mbi.proofs.IntegerBounds.{mbi-within}
use Rattle.ext.specs.Kinds.{Fields, fields_follow, kind_bits}
use Rattle.ext.specs.Read.{read_fields}
use Rattle.ext.proofs.Prefix.{decided, fields-prefix}
use Rattle.header.specs.Settings.{Settings}
use Rattle.header.specs.Read.{Header, Outline, outline, read_height, read_sizes, read_fix, read_after_fix, read_header}
use Rattle.header.proofs.Prefix.{integer-prefix}
use Rattle.header_pieces.specs.Extension.{fields_end, field_bytes_at, after_type, field_bytes}

module _ (o : Settings) (s ρ : List ℕ) where
  -- the fields, once the sizes behind them are read
  fields_in : (fix at : ℕ) (g : Header) → bind (read_fields o.classes true (kind_bits fix) s at) (read_sizes o s fix at) ≡ gives g
      → slice at (fields_end (s ++ ρ) (read_fields o.classes true (kind_bits fix) (s ++ ρ) at)) (s ++ ρ)
      ≡ slice at (fields_end s (read_fields o.classes true (kind_bits fix) s at)) s
  fields_in fix at g e =
      let f = bind-gives (read_fields o.classes true (kind_bits fix) s at) (read_sizes o s fix at) g e in
      let w = bind-gives (read_mbi o.shortest s f.0.1) (read_height o s fix at f.0) g f.2 in
      let read = mbi-within o.shortest s f.0.1 w.0.0 w.0.1 w.1 in
      ap (λ (x : Answer (Fields × ℕ)). slice at (fields_end (s ++ ρ) x) (s ++ ρ))
      (fields-prefix o.classes true (kind_bits fix) s ρ at (ap decided f.1) ∙ f.1)
      ∙ ap (drop at) (take-append-le f.0.1 s ρ (omega (arith, read.after, read.inside)))
      ∙ ap (λ (x : Answer (Fields × ℕ)). slice at (fields_end s x) s) (sym f.1)

  fix-in : (at : ℕ) (g : Header) → read_fix o s at ≡ gives g → field_bytes_at o (s ++ ρ) at ≡ field_bytes_at o s at
  fix-in at g e = go (leb (length s) at) refl e
    where
      follow : (fix : ℕ) (t u : Bool)
          → if t (refuses 7 at) (bind (read_fields o.classes u (kind_bits fix) s (at + 1)) (read_sizes o s fix (at + 1))) ≡ gives g
          → if t [] (if u (slice (at + 1) (fields_end (s ++ ρ) (read_fields o.classes true (kind_bits fix) (s ++ ρ) (at + 1))) (s ++ ρ)) [])
          ≡ if t [] (if u (slice (at + 1) (fields_end s (read_fields o.classes true (kind_bits fix) s (at + 1))) s) [])
      follow fix true u q = refl
      follow fix false true q = fields_in fix (at + 1) g q
      follow fix false false q = refl

      rest : List ℕ → ℕ → List ℕ
      rest s fix =
          if (o.fix_zero && ltb 0 fix) []
          (if (o.honoured && fields_follow fix)
          (slice (at + 1) (fields_end s (read_fields o.classes true (kind_bits fix) s (at + 1))) s)
          [])

      go : (t : Bool) → leb (length s) at ≡ t
          → if t (refuses 6 at) (if (o.fix_zero && ltb 0 (get_or s at 0)) (refuses 7 at) (read_after_fix o s (get_or s at 0) (at + 1))) ≡ gives g
          → field_bytes_at o (s ++ ρ) at ≡ if t [] (rest s (get_or s at 0))
      go true p q = cc
      go false p q =
          let h = leb-false (length s) at p in
          let l = lt-leb (length (s ++ ρ)) at (rw length-append (omega arith)) in
          ap (λ (t : Bool). if t [] (rest (s ++ ρ) (get_or (s ++ ρ) at 0))) l
          ∙ ap (rest (s ++ ρ)) (get_or-append s ρ 0 at h)
          ∙ follow (get_or s at 0) (o.fix_zero && ltb 0 (get_or s at 0)) (o.honoured && fields_follow (get_or s at 0)) q

  pub fields-kept : (h : Outline) → map outline (read_header o s) ≡ gives h → field_bytes o (s ++ ρ) ≡ field_bytes o s
  unfolding field_bytes read_header
  fields-kept h e =
      let g = map_gives outline (read_header o s) h e in
      let v = bind-gives (read_mbi o.shortest s 0) _ g.0 g.1 in
      ap (after_type o (s ++ ρ)) (integer-prefix o s ρ 0 (ap decided v.1) ∙ v.1) ∙ typed g.0 v.0 (eqb v.0.0 0) v.2
      ∙ ap (after_type o s) (sym v.1)
    where
      typed : (g : Header) (v : ℕ × ℕ) (t : Bool) → if t (read_fix o s v.1) (refuses 5 v.1) ≡ gives g
          → if t (field_bytes_at o (s ++ ρ) v.1) [] ≡ if t (field_bytes_at o s v.1) []
      typed g v true q = fix-in v.1 g q
      typed g v false q = refl
