-- What a reading has of the extension fields is what the bytes taken tell of them.
use Rattle.std.proofs.Common.{◌≡◌, ℕ, ◌+◌, ◌/◌, ◌%◌, Bool, true, false, ◌&&◌, ◌||◌, eqb, ltb, leb, List, [], ◌∷◌, length, get_or, drop, sym, refl, ap, ◌∙◌, subst, drop_of_length-le, leb-false, leb-true}
use Rattle.error.specs.Choice.{if}
use Rattle.error.specs.Answer.{Answer, gives, refuses, bind, map}
use Rattle.laws.proofs.Lists.{drop_at}
use Rattle.mbi.specs.Read.{ByteRead, goes, ends, wrong, read_byte, read_rest, read_mbi, integer, upon}
use Rattle.mbi.proofs.Continuation.{integer-mbi}
use Rattle.ext.specs.Kinds.{Span, absent, span, span_of, fields_follow, kind_bits}
use Rattle.ext.specs.Read.{read_fields, read_pairs, read_pair}
use Rattle.ext.specs.Internal.Bytewise.{octets, octet, pairs_from, identifier_from, value_from, fields_from, value_fault}
use Rattle.ext.proofs.Spans.{span_to, spans}
use Rattle.header.specs.Settings.{Settings, ext_inner}
use Rattle.header.specs.Read.{Outline, outline, read_header}
use Rattle.header_reader.specs.Internal.Machine.{State, in_type, at_fix, in_octets, at_octet, at_pair, in_identifier, in_value, in_width}
use Rattle.header_reader.specs.Internal.Machine.{in_height, start, Step, more, done, refused, on_byte, step_of, steps}
use Rattle.header_reader.specs.Known.{span_at_fix, read_span, unknown, known, known_by, fields_known, known_in}
use Rattle.header_reader.specs.Internal.Pieces.{onward}
use Rattle.header_reader.proofs.Machine.{steps-cons}
use Rattle.header_pieces.proofs.Direct.{direct}
use Rattle.header_pieces.proofs.RefusalMet.{finds}

-- the span of the fields that a reading has the bytes τ left of, in continuation form
abbrev fix_span : Settings → List ℕ → ℕ → Answer Span
fix_span o [] at = refuses 6 at
fix_span o (b ∷ τ) at =
    if (o.fix_zero && ltb 0 b) (refuses 7 at)
    (if (o.honoured && fields_follow b) (fields_from o.classes true (kind_bits b) τ (at + 1) (span_to (kind_bits b) (at + 1)))
    (gives absent))

abbrev type_span : Settings → ℕ → ℕ → List ℕ → Answer Span
type_span o type at τ = if (eqb type 0) (fix_span o τ at) (refuses 5 at)

unfoldable span_from : Settings → State → List ℕ → Answer Span
span_from o (in_type at v n) τ = integer o.shortest τ at v n (type_span o)
span_from o (at_fix at) τ = fix_span o τ at
span_from o (in_octets fix from at) τ = octets τ from at (span_to (kind_bits fix) from)
span_from o (at_octet fix at) τ = octet τ at (span_to (kind_bits fix) at)
span_from o (at_pair fix from at pairs) τ = pairs_from τ o.classes from at pairs (span_to (kind_bits fix) from)
span_from o (in_identifier fix from at pairs begun left size again fault) τ =
    identifier_from τ o.classes from at pairs begun left size again fault (span_to (kind_bits fix) from)
span_from o (in_value fix from at pairs begun left again fault) τ =
    value_from τ o.classes from at pairs begun left again fault (span_to (kind_bits fix) from)
span_from o (in_width fix f at v n) τ = gives f
span_from o (in_height fix f w at v n) τ = gives f

module _ (o : Settings) (s : List ℕ) where
  fix-direct : (at : ℕ) → span_at_fix o s at ≡ fix_span o (drop at s) at
  unfolding read_fields
  fix-direct at = go (leb (length s) at) refl
    where
      within : (b : ℕ) (t u : Bool)
          → if t (refuses 7 at) (map (span_of (at + 1)) (read_fields o.classes u (kind_bits b) s (at + 1)))
          ≡ if t (refuses 7 at)
          (if u (fields_from o.classes true (kind_bits b) (drop (at + 1) s) (at + 1) (span_to (kind_bits b) (at + 1))) (gives absent))
      within b true u = refl
      within b false true = spans o.classes (kind_bits b) s (at + 1)
      within b false false = refl

      go : (t : Bool) → leb (length s) at ≡ t
          → if t (refuses 6 at)
          (if (o.fix_zero && ltb 0 (get_or s at 0)) (refuses 7 at)
          (map (span_of (at + 1)) (read_fields o.classes (o.honoured && fields_follow (get_or s at 0)) (kind_bits (get_or s at 0)) s (at + 1))))
          ≡ fix_span o (drop at s) at
      go true e = rw (drop_of_length-le s (leb-true (length s) at e))
      go false e =
          within (get_or s at 0) (o.fix_zero && ltb 0 (get_or s at 0)) (o.honoured && fields_follow (get_or s at 0))
          ∙ ap (λ (l : List ℕ). fix_span o l at) (sym (drop_at s at (leb-false (length s) at e)))

  -- the definition is what is left of a reading that has not begun
  span-direct : read_span o s ≡ span_from o start s
  unfolding read_span span_from
  span-direct =
      type (read_mbi o.shortest s 0) ∙ sym (integer-mbi o.shortest s 0 (type_span o))
    where
      type : (x : Answer (ℕ × ℕ))
          → bind x (λ t. if (eqb t.0 0) (span_at_fix o s t.1) (refuses 5 t.1))
          ≡ bind x (λ t. type_span o t.0 t.1 (drop t.1 s))
      type (gives t) = ap (λ (a : Answer Span). if (eqb t.0 0) a (refuses 5 t.1)) (fix-direct t.1)
      type (refuses code place) = refl

module _ (o : Settings) where
  -- an answer that a step leaves as it is, where the bytes τ are left; behind a refusal nothing is said
  abbrev SpanLeft : Answer Span → Step → List ℕ → Type 0
  SpanLeft a (more st) τ = a ≡ span_from o st τ
  SpanLeft a (done h) τ = a ≡ gives h.fields
  SpanLeft a (refused code place) τ = Unit {0}

  module _ (τ : List ℕ) where
    pick : (t : Bool) (a c : Answer Span) (x y : Step) → SpanLeft a x τ → SpanLeft c y τ
        → SpanLeft (elim t as (λ q. Answer Span) [ true ↦ a | false ↦ c ]) (if t x y) τ
    pick true a c x y p q = p
    pick false a c x y p q = q

    choose : (t : Bool) (a c : Answer Span) (x y : Step) → SpanLeft a x τ → SpanLeft c y τ → SpanLeft (if t a c) (if t x y) τ
    choose true a c x y p q = p
    choose false a c x y p q = q

    both : (t : Bool) (a : Answer Span) (x y : Step) → SpanLeft a x τ → SpanLeft a y τ → SpanLeft a (if t x y) τ
    both true a x y p q = p
    both false a x y p q = q

    number : (r : ByteRead) (g l : ℕ → Answer Span) (g' l' : ℕ → Step)
        → ((w : ℕ) → SpanLeft (g w) (g' w) τ) → ((w : ℕ) → SpanLeft (l w) (l' w) τ) → SpanLeft (upon r g l) (on_byte r g' l') τ
    number (goes w) g l g' l' p q = p w
    number (ends w) g l g' l' p q = q w
    number (wrong code place) g l g' l' p q = tt

    sizes : (r : ByteRead) (a : Answer Span) (g l : ℕ → Step)
        → ((w : ℕ) → SpanLeft a (g w) τ) → ((w : ℕ) → SpanLeft a (l w) τ) → SpanLeft a (on_byte r g l) τ
    sizes (goes w) a g l p q = p w
    sizes (ends w) a g l p q = q w
    sizes (wrong code place) a g l p q = tt

    -- the one-step law
    span-step : (st : State) (b : ℕ) → SpanLeft (span_from o st (b ∷ τ)) (step_of o st b) τ
    unfolding span_from step_of integer octets octet pairs_from fields_from
    span-step (in_type at v n) b =
        number (read_byte o.shortest at v n b) _ _ _ _ (λ w. refl) (λ w. choose (eqb w 0) _ _ _ _ refl tt)
    span-step (at_fix at) b =
        choose (o.fix_zero && ltb 0 b) _ _ _ _ tt
        (choose (o.honoured && fields_follow b) _ _ _ _
        (pick (eqb (kind_bits b) 0) _ _ _ _ refl (pick (eqb (kind_bits b) 3) _ _ _ _ refl refl))
        refl)
    span-step (in_octets fix from at) b = pick (leb (from + 4096) at) _ _ _ _ tt (pick (ltb b 128) _ _ _ _ refl refl)
    span-step (at_octet fix at) b = refl
    span-step (at_pair fix from at pairs) b =
        pick (leb (from + 4096) at) _ _ _ _ tt
        (pick (eqb (b / 16 % 8) 0) _ _ _ _ tt (pick (eqb (b % 16) 0) _ _ _ _ tt refl))
    span-step (in_identifier fix from at pairs begun left size again fault) b = pick (ltb 1 left) _ _ _ _ refl refl
    span-step (in_value fix from at pairs begun left again fault) b =
        pick (ltb 1 left) _ _ _ _ refl
        (pick (eqb (value_fault o.classes fault b) 0) _ _ _ _ (pick again _ _ _ _ refl refl) tt)
    span-step (in_width fix f at v n) b = sizes (read_byte o.shortest at v n b) _ _ _ (λ w. refl) (λ w. refl)
    span-step (in_height fix f w at v n) b =
        sizes (read_byte o.shortest at v n b) _ _ _ (λ h. refl) (λ h. both (eqb w 0 || eqb h 0) _ _ _ tt refl)

  span-steps : (σ : List ℕ) (st : State) → SpanLeft (span_from o st σ) (steps o st σ) []
  unfolding steps
  span-steps [] st = refl
  span-steps (b ∷ σ) st =
      subst (λ (x : Step). SpanLeft (span_from o st (b ∷ σ)) x []) (sym (steps-cons o st b σ))
      (go (step_of o st b) (span-step σ st b) (λ s. span-steps σ s))
    where
      go : (x : Step) → SpanLeft (span_from o st (b ∷ σ)) x σ → ((s : State) → SpanLeft (span_from o s σ) (steps o s σ) [])
          → SpanLeft (span_from o st (b ∷ σ)) (onward o x σ) []
      go (more s) p ih = subst (λ (a : Answer Span). SpanLeft a (steps o s σ) []) (sym p) (ih s)
      go (done h) p ih = p
      go (refused code place) p ih = tt

  -- where the bytes end
  span-end : (st : State) → known_by (span_from o st []) ≡ known_in st
  unfolding span_from integer octets octet pairs_from
  span-end (in_type at v n) = refl
  span-end (at_fix at) = refl
  span-end (in_octets fix from at) = refl
  span-end (at_octet fix at) = refl
  span-end (at_pair fix from at pairs) = refl
  span-end (in_identifier fix from at pairs begun left size again fault) = refl
  span-end (in_value fix from at pairs begun left again fault) = refl
  span-end (in_width fix f at v n) = refl
  span-end (in_height fix f w at v n) = refl

  module _ (s : List ℕ) where
    -- what the steps over all the bytes come to
    spanned : (x : Step) → steps o start s ≡ x → SpanLeft (read_span o s) x []
    spanned x e =
        subst (λ (a : Answer Span). SpanLeft a x []) (sym (span-direct o s))
        (subst (λ (y : Step). SpanLeft (span_from o start s) y []) e (span-steps s start))

    -- a reading that goes on
    pub known_so : (st : State) → steps o start s ≡ more st → fields_known o s ≡ known_in st
    known_so st e = ap known_by (spanned (more st) e) ∙ span-end st

    -- a header that was read
    pub known-header : (h : Outline) → map outline (read_header o s) ≡ gives h → fields_known o s ≡ known h.fields
    known-header h e = ap known_by (spanned (done h) (finds o start s h (sym (direct o s) ∙ e)))

-- the pair of P5, k = 12, is known with its last byte, and not before
card : fields_known (ext_inner false) (0 ∷ 224 ∷ 18 ∷ 107 ∷ 49 ∷ 50 ∷ []) ≡ known (span 3 2 4 1)
unfolding read_span read_rest read_byte read_fields read_pairs read_pair
card = refl

short : fields_known (ext_inner false) (0 ∷ 224 ∷ 18 ∷ 107 ∷ 49 ∷ []) ≡ unknown
unfolding read_span read_rest read_byte read_fields read_pairs read_pair
short = refl
