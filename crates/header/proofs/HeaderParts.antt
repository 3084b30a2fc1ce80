-- From what a part of a header answered to what the header's reading answers.
use Prim.Native.Nat.{ℕ, ◌+◌, ◌-◌, ◌≤◌}
use mathlib.Core.Path.{◌≡◌, ◌∙◌, refl, ap}
use mathlib.Core.Bool.{Bool, true, false, ◌||◌}
use mathlib.Core.List.{List}
use native.Mathlib.Omega.{arith}
use lib.Dec.{eqb}
use lib.ListN.{length}
use Rattle.error.specs.Choice.{if}
use Rattle.error.specs.Answer.{Answer, gives, refuses, bind, map}
use Rattle.laws.proofs.Tests.{zero_one}
use Rattle.mbi.specs.Read.{read_mbi}
use Rattle.ext.specs.Kinds.{Fields, none, Span, absent, span, span_of, fields_span}
use Rattle.ext.specs.Read.{read_fields}
use Rattle.ext.specs.declared.ExtFields.{ExtFields}
use Rattle.ext.proofs.Bounds.{fields-bound}
use Rattle.ext.proofs.Spans.{span-is}
use Rattle.header.specs.Settings.{Settings}
use Rattle.header.specs.Read.{Outline, outline, read_height, read_sizes, sized, outline_height, outline_sizes}

module _ (o : Settings) (s : List ℕ) (fix start : ℕ) where
  -- the sizes by themselves
  height-outline : (f : Fields × ℕ) (w : ℕ × ℕ) → map outline (read_height o s fix start f w)
      ≡ outline_height o.shortest s fix (span_of start f) w
  height-outline f w = go (read_mbi o.shortest s w.1)
    where
      pick : (h : ℕ × ℕ) (t : Bool)
          → map outline (if t (refuses 8 h.1) (gives (record
          { width = w.0; height = h.0; fix = fix; fields = f.0; start = start; sizes = f.1; body = h.1 })))
          ≡ if t (refuses 8 h.1) (gives (record { width = w.0; height = h.0; fix = fix; fields = span_of start f; body = h.1 }))
      pick h true = refl
      pick h false = refl

      go : (x : Answer (ℕ × ℕ))
          → map outline (bind x (λ h. if (eqb w.0 0 || eqb h.0 0) (refuses 8 h.1)
          (gives (record { width = w.0; height = h.0; fix = fix; fields = f.0; start = start; sizes = f.1; body = h.1 }))))
          ≡ bind x (sized fix (span_of start f) w.0)
      go (gives h) = pick h (eqb w.0 0 || eqb h.0 0)
      go (refuses code offset) = refl

  sizes-outline : (f : Fields × ℕ) → map outline (read_sizes o s fix start f) ≡ outline_sizes o.shortest s fix (span_of start f) f.1
  sizes-outline f = go (read_mbi o.shortest s f.1)
    where
      go : (x : Answer (ℕ × ℕ)) → map outline (bind x (read_height o s fix start f))
          ≡ bind x (outline_height o.shortest s fix (span_of start f))
      go (gives w) = height-outline f w
      go (refuses code offset) = refl

  -- the sizes behind fields with a span
  abbrev pub sizes_after : Span → Answer Outline
  sizes_after absent = outline_sizes o.shortest s fix absent start
  sizes_after (span kind at len count) = outline_sizes o.shortest s fix (span kind at len count) (at + len)

  pub after_fields : (strict follow : Bool) (kind : ℕ)
      → map outline (bind (read_fields strict follow kind s start) (read_sizes o s fix start))
      ≡ bind (map (span_of start) (read_fields strict follow kind s start)) sizes_after
  unfolding read_fields
  after_fields strict false kind = sizes-outline (none, start)
  after_fields strict true kind = each (read_fields strict true kind s start) refl
    where
      each : (x : Answer (Fields × ℕ)) → read_fields strict true kind s start ≡ x
          → map outline (bind x (read_sizes o s fix start)) ≡ bind (map (span_of start) x) sizes_after
      each (gives r) e =
          let b = fields-bound strict true kind s start r e in
          let i = span-is strict kind s start r e in
          let end : r.1 ≡ start + (r.1 - start) = omega arith in
          sizes-outline r ∙ ap (λ (n : ℕ). outline_sizes o.shortest s fix (span_of start r) n) end
          ∙ rw i
      each (refuses code offset) e = refl

-- fields that were read end within the file
pub fields_end : (strict follow : Bool) (kind : ℕ) (s : List ℕ) (at : ℕ) (f : ExtFields)
    → gives (fields_span f) ≡ map (span_of at) (read_fields strict follow kind s at) → f.start + f.len ≤ length s
unfolding read_fields
fields_end strict false kind s at f e = zero_one (cc)
fields_end strict true kind s at f e = each (read_fields strict true kind s at) refl e
  where
    each : (x : Answer (Fields × ℕ)) → read_fields strict true kind s at ≡ x → gives (fields_span f) ≡ map (span_of at) x
        → f.start + f.len ≤ length s
    each (gives y) q z =
        let b = fields-bound strict true kind s at y q in
        let i = span-is strict kind s at y q in
        let u : at ≡ f.start = cc in
        let v : y.1 - at ≡ f.len = cc in
        omega (arith, b.forward, b.within refl)
    each (refuses code offset) q z = zero_one (cc)

-- where fields are not read, the sizes follow
pub no_fields : (o : Settings) (s : List ℕ) (fix start : ℕ) (strict : Bool) (kind : ℕ)
    → map outline (bind (read_fields strict false kind s start) (read_sizes o s fix start)) ≡ outline_sizes o.shortest s fix absent start
unfolding read_fields
no_fields o s fix start strict kind = sizes-outline o s fix start (none, start)
