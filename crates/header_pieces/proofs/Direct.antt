-- Reading a header as the grammar says and reading it byte by byte answer the same.
use Rattle.std.proofs.Common.{◌≡◌, ℕ, ◌+◌, Bool, true, false, ◌&&◌, ◌||◌, eqb, ltb, leb, List, length, get_or, drop, sym, refl, ap, ◌∙◌, drop_of_length-le, leb-false, leb-true}
use Rattle.error.specs.Choice.{if}
use Rattle.error.specs.Answer.{Answer, gives, refuses, bind, map}
use Rattle.laws.proofs.Lists.{drop_at}
use Rattle.mbi.specs.Read.{read_mbi}
use Rattle.mbi.proofs.Continuation.{integer-mbi}
use Rattle.ext.specs.Internal.Bytewise.{fields_from}
use Rattle.ext.specs.Kinds.{Fields, none, Span, absent, span_of, fields_follow, kind_bits}
use Rattle.ext.specs.Read.{read_fields}
use Rattle.ext.proofs.Continuation.{fields_in}
use Rattle.ext.proofs.Spans.{span-is}
use Rattle.header.specs.Settings.{Settings}
use Rattle.header.specs.Read.{Outline, outline, read_height, read_sizes, read_after_fix, read_fix, read_header}
use Rattle.header_reader.specs.Internal.Machine.{start, after_height, after_width, sizes_from, after_fields, fix_from, after_type, resume}

-- two continuations of a reading, alike wherever it gives something
then : {A B C : Type 0} (f : B → C) (x : Answer A) (g : A → Answer B) (k : A → Answer C)
    → ((a : A) → x ≡ gives a → map f (g a) ≡ k a) → map f (bind x g) ≡ bind x k
then f (gives a) g k h = h a refl
then f (refuses code offset) g k h = refl

module _ (o : Settings) (s : List ℕ) where
  -- the height, after a width that was read
  height : (fix at : ℕ) (f : Fields × ℕ) (w : ℕ × ℕ)
      → map outline (read_height o s fix at f w) ≡ after_width o fix (span_of at f) w.0 w.1 (drop w.1 s)
  height fix at f w =
      then outline (read_mbi o.shortest s w.1) _ (λ h. after_height fix (span_of at f) w.0 h.0 h.1 (drop h.1 s))
      (λ h e. zero (eqb w.0 0 || eqb h.0 0) h)
      ∙ sym (integer-mbi o.shortest s w.1 (after_height fix (span_of at f) w.0))
    where
      zero : (t : Bool) (h : ℕ × ℕ)
          → map outline
          (if t (refuses 8 h.1)
          (gives (record { width = w.0; height = h.0; fix = fix; fields = f.0; start = at; sizes = f.1; body = h.1 })))
          ≡ if t (refuses 8 h.1) (gives (record { width = w.0; height = h.0; fix = fix; fields = span_of at f; body = h.1 }))
      zero true h = refl
      zero false h = refl

  sizes : (fix at : ℕ) (f : Fields × ℕ) → map outline (read_sizes o s fix at f) ≡ sizes_from o fix (span_of at f) f.1 (drop f.1 s)
  sizes fix at f =
      then outline (read_mbi o.shortest s f.1) _ (λ w. after_width o fix (span_of at f) w.0 w.1 (drop w.1 s))
      (λ w e. height fix at f w)
      ∙ sym (integer-mbi o.shortest s f.1 (after_width o fix (span_of at f)))

  -- fields that follow
  fields : (fix at : ℕ)
      → map outline (bind (read_fields o.classes true (kind_bits fix) s at) (read_sizes o s fix at))
      ≡ fields_from o.classes true (kind_bits fix) (drop at s) at (after_fields o fix at)
  fields fix at =
      then outline (read_fields o.classes true (kind_bits fix) s at) _ _
      (λ f e. sizes fix at f ∙ ap (λ (x : Span). sizes_from o fix x f.1 (drop f.1 s)) (span-is o.classes (kind_bits fix) s at f e))
      ∙ sym (fields_in s (after_fields o fix at) o.classes true (kind_bits fix) at)

  fix : (at : ℕ) → map outline (read_fix o s at) ≡ fix_from o (drop at s) at
  unfolding fix_from read_fields
  fix at = go (leb (length s) at) refl
    where
      rest : (b : ℕ) (t u : Bool)
          → map outline (if t (refuses 7 at) (bind (read_fields o.classes u (kind_bits b) s (at + 1)) (read_sizes o s b (at + 1))))
          ≡ elim t as (λ x. Answer Outline) [
            | true ↦ refuses 7 at
            | false ↦
                elim u as (λ x. Answer Outline) [
                  | true ↦ fields_from o.classes true (kind_bits b) (drop (at + 1) s) (at + 1) (after_fields o b (at + 1))
                  | false ↦ sizes_from o b absent (at + 1) (drop (at + 1) s)
                ]
          ]
      rest b true u = refl
      rest b false true = fields b (at + 1)
      rest b false false = sizes b (at + 1) (none, at + 1)

      go : (t : Bool) → leb (length s) at ≡ t
          → map outline
          (if t (refuses 6 at)
          (if (o.fix_zero && ltb 0 (get_or s at 0)) (refuses 7 at) (read_after_fix o s (get_or s at 0) (at + 1))))
          ≡ fix_from o (drop at s) at
      go true e = rw (drop_of_length-le s (leb-true (length s) at e))
      go false e =
          rest (get_or s at 0) (o.fix_zero && ltb 0 (get_or s at 0)) (o.honoured && fields_follow (get_or s at 0))
          ∙ ap (λ (l : List ℕ). fix_from o l at) (sym (drop_at s at (leb-false (length s) at e)))

  pub direct : map outline (read_header o s) ≡ resume o start s
  unfolding read_header resume
  direct =
      then outline (read_mbi o.shortest s 0) _ (λ t. after_type o t.0 t.1 (drop t.1 s)) (λ t e. type (eqb t.0 0) t.1)
      ∙ sym (integer-mbi o.shortest s 0 (after_type o))
    where
      type : (t : Bool) (at : ℕ) → map outline (if t (read_fix o s at) (refuses 5 at)) ≡ if t (fix_from o (drop at s) at) (refuses 5 at)
      type true at = fix at
      type false at = refl
