-- One byte more: which extension bytes it brings, and that they have room.
use Rattle.std.proofs.Common.{◌≡◌, ℕ, ◌+◌, ◌-◌, ◌<◌, ◌≤◌, Bool, true, false, ◌&&◌, ltb, List, [], ◌∷◌, ◌++◌, length, drop, sym, refl, ap, ◌∙◌, subst, inl, inr, append-nil, arith, length-append, length-drop, drop_of_length-le, take_all, le-ltb, lt-ltb}
use mathlib.Core.Path.{subst⁻¹}
use lib.Seq.{take-append-le, drop-append-le, take-append_seam, take-append-add}
use Rattle.error.specs.Choice.{if}
use Rattle.laws.proofs.Tests.{zero_one}
use Rattle.mbi.specs.Read.{read_rest, read_byte}
use Rattle.ext.specs.Kinds.{Span, absent, span}
use Rattle.ext.specs.Read.{read_fields, read_pairs, read_pair}
use Rattle.header.specs.Settings.{Settings, ext_inner}
use Rattle.header_reader.specs.Internal.Machine.{State, start, in_fields, Step, more, done, refused, step_of, steps, at_pair, in_identifier}
use Rattle.header_reader.specs.Internal.Standing.{Reachable}
use Rattle.header_reader.specs.Internal.Pieces.{onward}
use Rattle.header_reader.proofs.Machine.{steps-cons}
use Rattle.header_reader.proofs.StepReachable.{ReachableStep, reachable-step, reachable-steps, reachable-start}
use Rattle.header_pieces.proofs.BytesTaken.{taken, Moves, moves-step, taken-steps}
use Rattle.header_pieces.specs.Extension.{field_bytes}
use Rattle.header_pieces.proofs.Zones.{Zone, before, inside, behind, zone, is_inside, inside_is, ZoneNext, early, enters, skips, runs}
use Rattle.header_pieces.proofs.Zones.{leaves, late, Stops, Moved, zone-step}
use Rattle.header_pieces.proofs.FieldsBytewise.{spanned, rest, rest-start, rest-steps, rest-step, rest_end, stopped, after}
use Rattle.header_pieces.proofs.FieldsBytewise.{zone_bytes}

-- a zone whose fields start, and end where they have, in the bytes taken
abbrev pub Fits : ℕ → Zone → Type 0
Fits at before = Unit {0}
Fits at (inside from) = from ≤ at
Fits at (behind absent) = Unit {0}
Fits at (behind (span kind from len pairs)) = from + len ≤ at

span_fits : (at : ℕ) (f : Span) → Fits at (behind f) → Fits (at + 1) (behind f)
span_fits at absent h = tt
span_fits at (span kind from len pairs) h = omega arith

fits_next : (at : ℕ) (z z' : Zone) → ZoneNext at z z' → Fits at z → Fits (at + 1) z'
fits_next at z z' early h = tt
fits_next at z z' enters h = omega arith
fits_next at z z' skips h = tt
fits_next at z z' (runs p q) h = omega arith
fits_next at z z' (leaves p q) h = omega arith
fits_next at z z' (late {f = f}) h = span_fits at f h

fits-steps : (o : Settings) (σ : List ℕ) (st st' : State) → Reachable st → Fits (taken st) (zone st) → steps o st σ ≡ more st'
    → Fits (taken st') (zone st')
unfolding steps
fits-steps o [] st st' s h e = let f : st ≡ st' = cc in subst (λ (x : State). Fits (taken x) (zone x)) f h
fits-steps o (b ∷ σ) st st' s h e =
    go (step_of o st b) (reachable-step o st b s) (moves-step o st b) (zone-step o st b s) (λ x. fits-steps o σ x st')
    (sym (steps-cons o st b σ) ∙ e)
  where
    go : (x : Step) → ReachableStep x → Moves (taken st) x → Moved (taken st) (zone st) x
        → ((t : State) → Reachable t → Fits (taken t) (zone t) → steps o t σ ≡ more st' → Fits (taken st') (zone st'))
        → onward o x σ ≡ more st' → Fits (taken st') (zone st')
    go (more t) k m n ih q = ih t k (subst⁻¹ (λ (a : ℕ). Fits a (zone t)) m (fits_next (taken st) (zone st) (zone t) n h)) q
    go (done y) k m n ih q = zero_one (cc)
    go (refused code place) k m n ih q = zero_one (cc)

-- ---- lists

-- a byte, where it is stored
abbrev pub added : Bool → ℕ → List ℕ
added t b = if t (b ∷ []) []

spanned-prefix : (f : Span) (σ ρ : List ℕ) → Fits (length σ) (behind f) → spanned f (σ ++ ρ) ≡ spanned f σ
spanned-prefix absent σ ρ h = refl
spanned-prefix (span kind from len pairs) σ ρ h = ap (drop from) (take-append-le (from + len) σ ρ h)

module _ (σ : List ℕ) (b : ℕ) where
  snoc-length : length (σ ++ b ∷ []) ≡ length σ + 1
  snoc-length = length-append σ (b ∷ [])

  zone-more : (z z' : Zone) → ZoneNext (length σ) z z' → Fits (length σ) z
      → zone_bytes z' (σ ++ b ∷ []) ≡ zone_bytes z σ ++ added (is_inside z) b
  zone-more z z' early h = refl
  zone-more z z' enters h =
      let n : length (σ ++ b ∷ []) ≤ length σ + 1 = omega (arith, snoc-length) in
      drop_of_length-le (σ ++ b ∷ []) n
  zone-more z z' skips h = refl
  zone-more z z' (runs {from = from} p q) h = drop-append-le from σ (b ∷ []) h
  zone-more z z' (leaves {from = from} p q) h =
      ap (drop from) (take_all (from + (length σ + 1 - from)) (σ ++ b ∷ []) (omega (arith, snoc-length))) ∙ drop-append-le from σ (b ∷ []) h
  zone-more z z' (late {f = f}) h = spanned-prefix f σ (b ∷ []) h ∙ sym (append-nil (spanned f σ))

  module _ (τ : List ℕ) where
    zone-stop : (z : Zone) (place : ℕ) → Stops (length σ) place z → Fits (length σ) z
        → stopped z place (σ ++ b ∷ τ) ≡ zone_bytes z σ ++ added (is_inside z && ltb (length σ) place) b
    zone-stop before place x h = refl
    zone-stop (inside from) place (k, inl e) h =
        rw (e, le-ltb (length σ) (length σ) (omega arith))
        (ap (drop from) (take-append_seam σ (b ∷ τ)) ∙ sym (append-nil (drop from σ)))
    zone-stop (inside from) place (k, inr (e, l)) h =
        rw (e, lt-ltb (length σ) (length σ + 1) (omega arith))
        (ap (drop from) (take-append-add σ (b ∷ τ) 1) ∙ drop-append-le from σ (b ∷ []) h)
    zone-stop (behind f) place x h = spanned-prefix f σ (b ∷ τ) h ∙ sym (append-nil (spanned f σ))

room-inside : (σ : List ℕ) (from : ℕ) → from ≤ length σ → length σ < from + 4118 → length (drop from σ) < 4118
room-inside σ from h l = omega (arith, length-drop from σ)

room-more : (σ : List ℕ) (z z' : Zone) → ZoneNext (length σ) z z' → is_inside z ≡ true → length (zone_bytes z σ) < 4118
room-more σ z z' early e = zero_one (cc)
room-more σ z z' enters e = zero_one (cc)
room-more σ z z' skips e = zero_one (cc)
room-more σ z z' (runs {from = from} p q) e = room-inside σ from p q
room-more σ z z' (leaves {from = from} p q) e = room-inside σ from p q
room-more σ z z' late e = zero_one (cc)

room-stop : (σ : List ℕ) (z : Zone) (place : ℕ) → Stops (length σ) place z → (is_inside z && ltb (length σ) place) ≡ true
    → length (zone_bytes z σ) < 4118
room-stop σ before place x e = zero_one (cc)
room-stop σ (inside from) place (k, inl q) e =
    let f = le-ltb (length σ) place (omega arith) in
    zero_one (cc)
room-stop σ (inside from) place (k, inr (q, l)) e = room-inside σ from k l
room-stop σ (behind f) place x e = zero_one (cc)

-- ---- the extension bytes of a file

-- whether a byte at an offset is stored, by what it did
abbrev pub stores : State → ℕ → Step → Bool
stores st at (more st') = in_fields st
stores st at (done h) = false
stores st at (refused code place) = in_fields st && ltb at place

-- what may follow the byte: nothing where the reading goes on
abbrev pub Follow : Step → List ℕ → Type 0
Follow (more st) τ = τ ≡ []
Follow (done h) τ = Unit {0}
Follow (refused code place) τ = Unit {0}

pub record Grown (o : Settings) (σ : List ℕ) (b : ℕ) (τ : List ℕ) (w : Bool) : Type 0 where
  pub bytes : field_bytes o (σ ++ b ∷ τ) ≡ field_bytes o σ ++ added w b
  pub room : w ≡ true → length (field_bytes o σ) < 4118

module _ (o : Settings) (σ : List ℕ) (st : State) (e : steps o start σ ≡ more st) where
  reachable-so : Reachable st
  reachable-so = subst ReachableStep e (reachable-steps o σ start reachable-start)

  pub taken-so : taken st ≡ length σ
  taken-so = omega (arith, taken-steps o σ start st e)

  fits-so : Fits (length σ) (zone st)
  fits-so = subst (λ (n : ℕ). Fits n (zone st)) taken-so (fits-steps o σ start st reachable-start tt e)

  -- they are what the state says
  pub bytes-so : field_bytes o σ ≡ zone_bytes (zone st) σ
  bytes-so =
      rest-start o σ ∙ ap (rest o σ start) (sym (append-nil σ)) ∙ rest-steps o σ σ [] start st reachable-start e ∙ rest_end o σ st

  bytes-step : (b : ℕ) (τ : List ℕ) → field_bytes o (σ ++ b ∷ τ) ≡ after o (σ ++ b ∷ τ) (zone st) (step_of o st b) τ
  bytes-step b τ =
      rest-start o (σ ++ b ∷ τ) ∙ rest-steps o (σ ++ b ∷ τ) σ (b ∷ τ) start st reachable-start e
      ∙ rest-step o (σ ++ b ∷ τ) τ st b reachable-so

  -- the one-byte law
  pub grown : (b : ℕ) (τ : List ℕ) (x : Step) → step_of o st b ≡ x → Follow x τ → Grown o σ b τ (stores st (length σ) x)
  grown b τ x q f =
      go x f (subst (Moved (length σ) (zone st)) q
      (subst (λ (n : ℕ). Moved n (zone st) (step_of o st b)) taken-so (zone-step o st b reachable-so)))
      (bytes-step b τ ∙ ap (λ (y : Step). after o (σ ++ b ∷ τ) (zone st) y τ) q)
    where
      go : (x : Step) → Follow x τ → Moved (length σ) (zone st) x → field_bytes o (σ ++ b ∷ τ) ≡ after o (σ ++ b ∷ τ) (zone st) x τ
          → Grown o σ b τ (stores st (length σ) x)
      go (more st') f m q =
          record {
            bytes =
                rw (bytes-so, inside_is st, f) (rw f at q ∙ rest_end o (σ ++ b ∷ []) st' ∙ zone-more σ b (zone st) (zone st') m fits-so);
            room = λ t. rw bytes-so (room-more σ (zone st) (zone st') m (sym (inside_is st) ∙ t));
          }
      go (done h) f m q =
          record {
            bytes =
                q ∙ spanned-prefix h.fields σ (b ∷ τ) (subst (Fits (length σ)) m fits-so)
                ∙ sym (append-nil _ ∙ bytes-so ∙ ap (λ (z : Zone). zone_bytes z σ) m);
            room = λ t. zero_one (cc);
          }
      go (refused code place) f m q =
          record {
            bytes = rw (bytes-so, inside_is st) (q ∙ zone-stop σ b τ (zone st) place m fits-so);
            room = λ t. rw bytes-so (room-stop σ (zone st) place m (rw (inside_is st) at t));
          }

-- the pair of P5, k = 12: its first byte is stored
card : field_bytes (ext_inner false) (0 ∷ 224 ∷ 18 ∷ []) ≡ 18 ∷ []
unfolding field_bytes read_rest read_byte read_fields read_pairs read_pair steps step_of
card = (grown (ext_inner false) (0 ∷ 224 ∷ []) (at_pair 224 2 2 0) refl 18 [] (more (in_identifier 224 2 3 0 3 1 2 false 0)) refl refl).bytes
