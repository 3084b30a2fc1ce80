-- The extension bytes of a file, byte by byte.
use Rattle.std.proofs.Common.{◌≡◌, ℕ, ◌+◌, ◌-◌, ◌/◌, ◌%◌, ◌≤◌, Bool, true, false, ◌&&◌, ◌||◌, eqb, ltb, leb, List, [], ◌∷◌, ◌++◌, length, get_or, drop, sym, refl, ap, ◌∙◌, arith, drop_of_length-le, leb-false, leb-true}
use lib.Seq.{slice, take-length}
use Rattle.error.specs.Choice.{if}
use Rattle.error.specs.Answer.{Answer, gives, refuses, bind, is_end}
use Rattle.laws.proofs.Lists.{drop_at}
use Rattle.laws.proofs.Tests.{zero_one}
use Rattle.mbi.specs.Read.{ByteRead, goes, ends, wrong, read_byte, read_mbi, integer, upon}
use Rattle.mbi.proofs.Continuation.{integer-mbi}
use Rattle.ext.specs.Kinds.{Fields, Span, absent, span, fields_follow, kind_bits}
use Rattle.ext.specs.Read.{read_fields}
use Rattle.ext.specs.Internal.Bytewise.{octets, octet, pairs_from, identifier_from, value_from, fields_from, value_fault}
use Rattle.ext.proofs.Continuation.{fields_in}
use Rattle.header.specs.Settings.{Settings}
use Rattle.header_reader.specs.Internal.Machine.{State, in_type, at_fix, in_octets, at_octet, at_pair, in_identifier, in_value, in_width}
use Rattle.header_reader.specs.Internal.Machine.{in_height, start, Step, more, done, refused, on_byte, step_of, steps}
use Rattle.header_reader.specs.Internal.Standing.{Reachable}
use Rattle.header_reader.specs.Internal.Pieces.{onward}
use Rattle.header_reader.proofs.Machine.{steps-cons}
use Rattle.header_reader.proofs.StepReachable.{ReachableStep, reachable-step, value-kept}
use Rattle.header_pieces.specs.Extension.{fields_end, field_bytes_at, after_type, field_bytes}
use Rattle.header_pieces.proofs.Zones.{Zone, before, inside, behind, zone}

-- a reading of the fields that stops at their end
abbrev pub ended : ℕ → ℕ → List ℕ → Answer ℕ
ended end pairs τ = gives end

abbrev end_in : List ℕ → Answer ℕ → ℕ
end_in s (gives end) = end
end_in s (refuses code place) = if (is_end code) (length s) place

abbrev cut : List ℕ → ℕ → Answer ℕ → List ℕ
cut s from x = slice from (end_in s x) s

abbrev pub spanned : Span → List ℕ → List ℕ
spanned absent s = []
spanned (span kind from len pairs) s = slice from (from + len) s

abbrev fix_rest : Settings → List ℕ → List ℕ → ℕ → List ℕ
fix_rest o s [] at = []
fix_rest o s (b ∷ τ) at =
    if (o.fix_zero && ltb 0 b) []
    (if (o.honoured && fields_follow b) (cut s (at + 1) (fields_from o.classes true (kind_bits b) τ (at + 1) ended)) [])

abbrev type_rest : Settings → List ℕ → ℕ → ℕ → List ℕ → Answer (List ℕ)
type_rest o s type at τ = gives (if (eqb type 0) (fix_rest o s τ at) [])

abbrev or_none : Answer (List ℕ) → List ℕ
or_none (gives bytes) = bytes
or_none (refuses code place) = []

-- the extension bytes of s, of which a reading at a state has the bytes τ left
unfoldable pub rest : Settings → List ℕ → State → List ℕ → List ℕ
rest o s (in_type at v n) τ = or_none (integer o.shortest τ at v n (type_rest o s))
rest o s (at_fix at) τ = fix_rest o s τ at
rest o s (in_octets fix from at) τ = cut s from (octets τ from at ended)
rest o s (at_octet fix at) τ = cut s at (octet τ at ended)
rest o s (at_pair fix from at pairs) τ = cut s from (pairs_from τ o.classes from at pairs ended)
rest o s (in_identifier fix from at pairs begun left size again fault) τ =
    cut s from (identifier_from τ o.classes from at pairs begun left size again fault ended)
rest o s (in_value fix from at pairs begun left again fault) τ =
    cut s from (value_from τ o.classes from at pairs begun left again fault ended)
rest o s (in_width fix f at v n) τ = spanned f s
rest o s (in_height fix f w at v n) τ = spanned f s

module _ (o : Settings) (s : List ℕ) where
  fix-direct : (at : ℕ) → field_bytes_at o s at ≡ fix_rest o s (drop at s) at
  fix-direct at = go (leb (length s) at) refl
    where
      end : (x : Answer (Fields × ℕ)) (k : Fields × ℕ → Answer ℕ) → ((r : Fields × ℕ) → k r ≡ gives r.1)
          → fields_end s x ≡ end_in s (bind x k)
      end (gives r) k h = rw (h r)
      end (refuses code place) k h = refl

      fields : (kind from : ℕ)
          → slice from (fields_end s (read_fields o.classes true kind s from)) s
          ≡ cut s from (fields_from o.classes true kind (drop from s) from ended)
      fields kind from =
          ap (λ (n : ℕ). slice from n s)
          (end (read_fields o.classes true kind s from) _ (λ r. refl)
          ∙ ap (end_in s) (sym (fields_in s ended o.classes true kind from)))

      within : (b : ℕ) (t u : Bool)
          → if t [] (if u (slice (at + 1) (fields_end s (read_fields o.classes true (kind_bits b) s (at + 1))) s) [])
          ≡ if t [] (if u (cut s (at + 1) (fields_from o.classes true (kind_bits b) (drop (at + 1) s) (at + 1) ended)) [])
      within b true u = refl
      within b false true = fields (kind_bits b) (at + 1)
      within b false false = refl

      go : (t : Bool) → leb (length s) at ≡ t
          → if t [] (if (o.fix_zero && ltb 0 (get_or s at 0)) []
          (if (o.honoured && fields_follow (get_or s at 0))
          (slice (at + 1) (fields_end s (read_fields o.classes true (kind_bits (get_or s at 0)) s (at + 1))) s)
          []))
          ≡ fix_rest o s (drop at s) at
      go true e = rw (drop_of_length-le s (leb-true (length s) at e))
      go false e =
          within (get_or s at 0) (o.fix_zero && ltb 0 (get_or s at 0)) (o.honoured && fields_follow (get_or s at 0))
          ∙ ap (λ (l : List ℕ). fix_rest o s l at) (sym (drop_at s at (leb-false (length s) at e)))

  -- the definition is what is left of a reading that has not begun
  pub rest-start : field_bytes o s ≡ rest o s start s
  unfolding field_bytes rest
  rest-start =
      type (read_mbi o.shortest s 0) ∙ ap or_none (sym (integer-mbi o.shortest s 0 (type_rest o s)))
    where
      type : (x : Answer (ℕ × ℕ)) → after_type o s x ≡ or_none (bind x (λ t. type_rest o s t.0 t.1 (drop t.1 s)))
      type (gives t) = ap (λ (l : List ℕ). if (eqb t.0 0) l []) (fix-direct t.1)
      type (refuses code place) = refl

-- what a refusal leaves of the extension bytes
abbrev pub stopped : Zone → ℕ → List ℕ → List ℕ
stopped before place s = []
stopped (inside from) place s = slice from place s
stopped (behind f) place s = spanned f s

-- the extension bytes behind a step from a zone, where the bytes τ are left
abbrev pub after : Settings → List ℕ → Zone → Step → List ℕ → List ℕ
after o s z (more st) τ = rest o s st τ
after o s z (done h) τ = spanned h.fields s
after o s z (refused code place) τ = stopped z place s

module _ (o : Settings) (s τ : List ℕ) where
  pick : {A : Type 0} (f : A → List ℕ) (z : Zone) (t : Bool) (u v : A) (x y : Step)
      → f u ≡ after o s z x τ → f v ≡ after o s z y τ
      → f (elim t as (λ q. A) [ true ↦ u | false ↦ v ]) ≡ after o s z (if t x y) τ
  pick f z true u v x y p q = p
  pick f z false u v x y p q = q

  choose : (z : Zone) (t : Bool) (u v : List ℕ) (x y : Step) → u ≡ after o s z x τ → v ≡ after o s z y τ
      → if t u v ≡ after o s z (if t x y) τ
  choose z true u v x y p q = p
  choose z false u v x y p q = q

  both : (z : Zone) (t : Bool) (u : List ℕ) (x y : Step) → u ≡ after o s z x τ → u ≡ after o s z y τ → u ≡ after o s z (if t x y) τ
  both z true u x y p q = p
  both z false u x y p q = q

  number : (z : Zone) (r : ByteRead) (g l : ℕ → Answer (List ℕ)) (g' l' : ℕ → Step)
      → ((w : ℕ) → or_none (g w) ≡ after o s z (g' w) τ) → ((w : ℕ) → or_none (l w) ≡ after o s z (l' w) τ)
      → ((place : ℕ) → [] ≡ stopped z place s)
      → or_none (upon r g l) ≡ after o s z (on_byte r g' l') τ
  number z (goes w) g l g' l' p q x = p w
  number z (ends w) g l g' l' p q x = q w
  number z (wrong code place) g l g' l' p q x = x place

  -- behind the fields
  sizes : (f : Span) (r : ByteRead) (g l : ℕ → Step)
      → ((w : ℕ) → spanned f s ≡ after o s (behind f) (g w) τ) → ((w : ℕ) → spanned f s ≡ after o s (behind f) (l w) τ)
      → spanned f s ≡ after o s (behind f) (on_byte r g l) τ
  sizes f (goes w) g l p q = p w
  sizes f (ends w) g l p q = q w
  sizes f (wrong code place) g l p q = refl

  -- fields that end behind a byte
  left : (from at : ℕ) → from ≤ at → slice from (at + 1) s ≡ slice from (from + (at + 1 - from)) s
  left from at h = let e : at + 1 ≡ from + (at + 1 - from) = omega arith in ap (λ (n : ℕ). slice from n s) e

  fault : (from code place : ℕ) → is_end code ≡ false → cut s from (refuses code place) ≡ slice from place s
  fault from code place e = rw e

  -- the one-step law
  pub rest-step : (st : State) (b : ℕ) → Reachable st → rest o s st (b ∷ τ) ≡ after o s (zone st) (step_of o st b) τ
  unfolding rest step_of integer octets octet pairs_from fields_from
  rest-step (in_type at v n) b h =
      number before (read_byte o.shortest at v n b) _ _ _ _ (λ w. refl) (λ w. choose before (eqb w 0) _ _ _ _ refl refl) (λ place. refl)
  rest-step (at_fix at) b h =
      choose before (o.fix_zero && ltb 0 b) _ _ _ _ refl
      (choose before (o.honoured && fields_follow b) _ _ _ _
      (pick (cut s (at + 1)) before (eqb (kind_bits b) 0) _ _ _ _ refl (pick (cut s (at + 1)) before (eqb (kind_bits b) 3) _ _ _ _ refl refl))
      refl)
  rest-step (in_octets fix from at) b h =
      pick (cut s from) (inside from) (leb (from + 4096) at) _ _ _ _ refl
      (pick (cut s from) (inside from) (ltb b 128) _ _ _ _ (left from at h.2) refl)
  rest-step (at_octet fix at) b h = left at at (omega arith)
  rest-step (at_pair fix from at pairs) b h =
      pick (cut s from) (inside from) (leb (from + 4096) at) _ _ _ _ refl
      (pick (cut s from) (inside from) (eqb (b / 16 % 8) 0) _ _ _ _ refl
      (pick (cut s from) (inside from) (eqb (b % 16) 0) _ _ _ _ refl refl))
  rest-step (in_identifier fix from at pairs begun less size again wait) b h =
      pick (cut s from) (inside from) (ltb 1 less) _ _ _ _ refl refl
  rest-step (in_value fix from at pairs begun less again wait) b h =
      pick (cut s from) (inside from) (ltb 1 less) _ _ _ _ refl
      (pick (cut s from) (inside from) (eqb (value_fault o.classes wait b) 0) _ _ _ _
      (pick (cut s from) (inside from) again _ _ _ _ refl (left from at h.4))
      (fault from (value_fault o.classes wait b) (at + 1) (value-kept o.classes wait b h.5)))
  rest-step (in_width fix f at v n) b h = sizes f (read_byte o.shortest at v n b) _ _ (λ w. refl) (λ w. refl)
  rest-step (in_height fix f w at v n) b h =
      sizes f (read_byte o.shortest at v n b) _ _ (λ y. refl) (λ y. both (behind f) (eqb w 0 || eqb y 0) _ _ _ refl refl)

module _ (o : Settings) (s : List ℕ) where
  -- bytes that a reading takes and goes on behind
  pub rest-steps : (σ τ : List ℕ) (st st' : State) → Reachable st → steps o st σ ≡ more st' → rest o s st (σ ++ τ) ≡ rest o s st' τ
  unfolding steps
  rest-steps [] τ st st' h e = let f : st ≡ st' = cc in ap (λ (x : State). rest o s x τ) f
  rest-steps (b ∷ σ) τ st st' h e =
      rest-step o s (σ ++ τ) st b h
      ∙ go (step_of o st b) (reachable-step o st b h) (λ x. rest-steps σ τ x st') (sym (steps-cons o st b σ) ∙ e)
    where
      go : (x : Step) → ReachableStep x → ((t : State) → Reachable t → steps o t σ ≡ more st' → rest o s t (σ ++ τ) ≡ rest o s st' τ)
          → onward o x σ ≡ more st' → after o s (zone st) x (σ ++ τ) ≡ rest o s st' τ
      go (more t) k ih q = ih t k q
      go (done y) k ih q = zero_one (cc)
      go (refused code place) k ih q = zero_one (cc)

-- the extension bytes of bytes that a reading has taken so far
abbrev pub zone_bytes : Zone → List ℕ → List ℕ
zone_bytes before s = []
zone_bytes (inside from) s = drop from s
zone_bytes (behind f) s = spanned f s

pub rest_end : (o : Settings) (s : List ℕ) (st : State) → rest o s st [] ≡ zone_bytes (zone st) s
unfolding rest integer octets octet pairs_from
rest_end o s (in_type at v n) = refl
rest_end o s (at_fix at) = refl
rest_end o s (in_octets fix from at) = ap (drop from) (take-length s)
rest_end o s (at_octet fix at) = ap (drop at) (take-length s)
rest_end o s (at_pair fix from at pairs) = ap (drop from) (take-length s)
rest_end o s (in_identifier fix from at pairs begun left size again fault) = ap (drop from) (take-length s)
rest_end o s (in_value fix from at pairs begun left again fault) = ap (drop from) (take-length s)
rest_end o s (in_width fix f at v n) = refl
rest_end o s (in_height fix f w at v n) = refl
