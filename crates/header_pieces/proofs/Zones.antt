-- Where a reading stands to the extension fields, and how one byte moves it there.
use Rattle.std.proofs.Common.{◌≡◌, ℕ, ◌+◌, ◌-◌, ◌/◌, ◌%◌, ◌<◌, ◌≤◌, Bool, true, false, ◌&&◌, ◌||◌, eqb, ltb, leb, ◌⊎◌, refl, inl, inr, arith, leb-false}
use Rattle.error.specs.Choice.{if}
use Rattle.mbi.specs.Read.{ByteRead, goes, ends, wrong, read_byte}
use Rattle.ext.specs.Kinds.{Span, absent, span, fields_follow, kind_bits}
use Rattle.ext.specs.Internal.Bytewise.{value_fault}
use Rattle.header.specs.Settings.{Settings}
use Rattle.header_reader.specs.Internal.Machine.{State, in_type, at_fix, in_octets, at_octet, at_pair, in_identifier, in_value}
use Rattle.header_reader.specs.Internal.Machine.{in_width, in_height, in_fields, Step, more, done, refused, on_byte, step_of}
use Rattle.header_reader.specs.Internal.Standing.{Reachable}
use Rattle.header_pieces.proofs.BytesTaken.{taken}

-- before the fields, in those that start at an offset, or behind those with a span
pub data Zone : Type 0 where
  before : Zone
  inside : ℕ → Zone
  behind : Span → Zone

abbrev pub zone : State → Zone
zone (in_type at v n) = before
zone (at_fix at) = before
zone (in_octets fix from at) = inside from
zone (at_octet fix at) = inside at
zone (at_pair fix from at pairs) = inside from
zone (in_identifier fix from at pairs begun left size again fault) = inside from
zone (in_value fix from at pairs begun left again fault) = inside from
zone (in_width fix f at v n) = behind f
zone (in_height fix f w at v n) = behind f

abbrev pub is_inside : Zone → Bool
is_inside before = false
is_inside (inside from) = true
is_inside (behind f) = false

pub inside_is : (st : State) → in_fields st ≡ is_inside (zone st)
inside_is (in_type at v n) = refl
inside_is (at_fix at) = refl
inside_is (in_octets fix from at) = refl
inside_is (at_octet fix at) = refl
inside_is (at_pair fix from at pairs) = refl
inside_is (in_identifier fix from at pairs begun left size again fault) = refl
inside_is (in_value fix from at pairs begun left again fault) = refl
inside_is (in_width fix f at v n) = refl
inside_is (in_height fix f w at v n) = refl

-- what the byte at an offset does to a zone
pub data ZoneNext (at : ℕ) : Zone → Zone → Type 0 where
  early : ZoneNext at before before
  enters : ZoneNext at before (inside (at + 1))
  skips : ZoneNext at before (behind absent)
  runs : {from : ℕ} → from ≤ at → at < from + 4118 → ZoneNext at (inside from) (inside from)
  leaves : {from kind pairs : ℕ} → from ≤ at → at < from + 4118 → ZoneNext at (inside from) (behind (span kind from (at + 1 - from) pairs))
  late : {f : Span} → ZoneNext at (behind f) (behind f)

-- the place of a refusal in the fields: the byte's own, or the one after it
abbrev pub Stops : ℕ → ℕ → Zone → Type 0
Stops at place before = Unit {0}
Stops at place (inside from) = (from ≤ at) × ((place ≡ at) ⊎ ((place ≡ at + 1) × (at < from + 4118)))
Stops at place (behind f) = Unit {0}

abbrev pub Moved : ℕ → Zone → Step → Type 0
Moved at z (more st) = ZoneNext at z (zone st)
Moved at z (done h) = z ≡ behind h.fields
Moved at z (refused code place) = Stops at place z

pick : (at : ℕ) (z : Zone) (t : Bool) (x y : Step) → (t ≡ true → Moved at z x) → (t ≡ false → Moved at z y) → Moved at z (if t x y)
pick at z true x y p q = p refl
pick at z false x y p q = q refl

number : (at : ℕ) (z : Zone) (r : ByteRead) (g l : ℕ → Step)
    → ((w : ℕ) → Moved at z (g w)) → ((w : ℕ) → Moved at z (l w)) → ((code place : ℕ) → Stops at place z) → Moved at z (on_byte r g l)
number at z (goes w) g l p q x = p w
number at z (ends w) g l p q x = q w
number at z (wrong code place) g l p q x = x code place

module _ (o : Settings) where
  pub zone-step : (st : State) (b : ℕ) → Reachable st → Moved (taken st) (zone st) (step_of o st b)
  unfolding step_of
  zone-step (in_type at v n) b s =
      number at before (read_byte o.shortest at v n b) _ _ (λ w. early) (λ w. pick at before (eqb w 0) _ _ (λ e. early) (λ e. tt))
      (λ code place. tt)
  zone-step (at_fix at) b s =
      pick at before (o.fix_zero && ltb 0 b) _ _ (λ e. tt)
      (λ e. pick at before (o.honoured && fields_follow b) _ _
      (λ e. pick at before (eqb (kind_bits b) 0) _ _ (λ e. enters)
      (λ e. pick at before (eqb (kind_bits b) 3) _ _ (λ e. enters) (λ e. enters)))
      (λ e. skips))
  zone-step (in_octets fix from at) b s =
      pick at (inside from) (leb (from + 4096) at) _ _ (λ e. (s.2, inl refl))
      (λ e. let h = leb-false (from + 4096) at e in
      pick at (inside from) (ltb b 128) _ _ (λ e. leaves s.2 (omega arith)) (λ e. runs s.2 (omega arith)))
  zone-step (at_octet fix at) b s = leaves {from = at} (omega arith) (omega arith)
  zone-step (at_pair fix from at pairs) b s =
      pick at (inside from) (leb (from + 4096) at) _ _ (λ e. (s.3, inl refl))
      (λ e. let h = leb-false (from + 4096) at e in
      pick at (inside from) (eqb (b / 16 % 8) 0) _ _ (λ e. (s.3, inr (refl, omega arith)))
      (λ e. pick at (inside from) (eqb (b % 16) 0) _ _ (λ e. (s.3, inr (refl, omega arith))) (λ e. runs s.3 (omega arith))))
  zone-step (in_identifier fix from at pairs begun left size again fault) b s =
      pick at (inside from) (ltb 1 left) _ _ (λ e. runs s.5 (omega arith)) (λ e. runs s.5 (omega arith))
  zone-step (in_value fix from at pairs begun left again fault) b s =
      pick at (inside from) (ltb 1 left) _ _ (λ e. runs s.4 (omega arith))
      (λ e. pick at (inside from) (eqb (value_fault o.classes fault b) 0) _ _
      (λ e. pick at (inside from) again _ _ (λ e. runs s.4 (omega arith)) (λ e. leaves s.4 (omega arith)))
      (λ e. (s.4, inr (refl, omega arith))))
  zone-step (in_width fix f at v n) b s =
      number at (behind f) (read_byte o.shortest at v n b) _ _ (λ w. late) (λ w. late) (λ code place. tt)
  zone-step (in_height fix f w at v n) b s =
      number at (behind f) (read_byte o.shortest at v n b) _ _ (λ h. late)
      (λ h. pick at (behind f) (eqb w 0 || eqb h 0) _ _ (λ e. tt) (λ e. refl)) (λ code place. tt)
