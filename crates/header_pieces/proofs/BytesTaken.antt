-- How many bytes a reading has taken: one for each step, up to the body's start.
use Rattle.std.proofs.Common.{◌≡◌, ℕ, ◌+◌, ◌/◌, ◌%◌, Bool, true, false, ◌&&◌, ◌||◌, eqb, ltb, leb, List, [], ◌∷◌, length, sym, refl, ap, ◌∙◌, arith}
use Rattle.error.specs.Choice.{if}
use Rattle.laws.proofs.Tests.{zero_one}
use Rattle.mbi.specs.Read.{ByteRead, goes, ends, wrong, read_byte}
use Rattle.ext.specs.Kinds.{absent, fields_follow, kind_bits}
use Rattle.ext.specs.Internal.Bytewise.{value_fault}
use Rattle.header.specs.Settings.{Settings, inner}
use Rattle.header_reader.specs.Internal.Machine.{State, in_type, at_fix, in_octets, at_octet, at_pair, in_identifier, in_value, in_width}
use Rattle.header_reader.specs.Internal.Machine.{in_height, Step, more, done, refused, on_byte, step_of, steps, start}
use Rattle.header_reader.specs.Internal.Pieces.{onward}
use Rattle.header_reader.proofs.Machine.{steps-cons}

abbrev pub taken : State → ℕ
taken (in_type at v n) = at
taken (at_fix at) = at
taken (in_octets fix from at) = at
taken (at_octet fix at) = at
taken (at_pair fix from at pairs) = at
taken (in_identifier fix from at pairs begun left size again fault) = at
taken (in_value fix from at pairs begun left again fault) = at
taken (in_width fix f at v n) = at
taken (in_height fix f w at v n) = at

-- after a step from a state that has taken `at` bytes
abbrev pub Moves : ℕ → Step → Type 0
Moves at (more st) = taken st ≡ at + 1
Moves at (done h) = h.body ≡ at + 1
Moves at (refused code offset) = Unit {0}

pick : (at : ℕ) (t : Bool) (x y : Step) → Moves at x → Moves at y → Moves at (if t x y)
pick at true x y p q = p
pick at false x y p q = q

number : (at : ℕ) (r : ByteRead) (g l : ℕ → Step)
    → ((w : ℕ) → Moves at (g w)) → ((w : ℕ) → Moves at (l w)) → Moves at (on_byte r g l)
number at (goes w) g l p q = p w
number at (ends w) g l p q = q w
number at (wrong code offset) g l p q = tt

module _ (o : Settings) where
  pub moves-step : (st : State) (b : ℕ) → Moves (taken st) (step_of o st b)
  unfolding step_of
  moves-step (in_type at v n) b = number at (read_byte o.shortest at v n b) _ _ (λ w. refl) (λ w. pick at (eqb w 0) _ _ refl tt)
  moves-step (at_fix at) b =
      pick at (o.fix_zero && ltb 0 b) _ _ tt
      (pick at (o.honoured && fields_follow b) _ _
      (pick at (eqb (kind_bits b) 0) _ _ refl (pick at (eqb (kind_bits b) 3) _ _ refl refl))
      refl)
  moves-step (in_octets fix from at) b = pick at (leb (from + 4096) at) _ _ tt (pick at (ltb b 128) _ _ refl refl)
  moves-step (at_octet fix at) b = refl
  moves-step (at_pair fix from at pairs) b =
      pick at (leb (from + 4096) at) _ _ tt (pick at (eqb (b / 16 % 8) 0) _ _ tt (pick at (eqb (b % 16) 0) _ _ tt refl))
  moves-step (in_identifier fix from at pairs begun left size again fault) b = pick at (ltb 1 left) _ _ refl refl
  moves-step (in_value fix from at pairs begun left again fault) b =
      pick at (ltb 1 left) _ _ refl (pick at (eqb (value_fault o.classes fault b) 0) _ _ (pick at again _ _ refl refl) tt)
  moves-step (in_width fix f at v n) b = number at (read_byte o.shortest at v n b) _ _ (λ w. refl) (λ w. refl)
  moves-step (in_height fix f w at v n) b =
      number at (read_byte o.shortest at v n b) _ _ (λ h. refl) (λ h. pick at (eqb w 0 || eqb h 0) _ _ tt refl)

  -- a reading that is still open has taken all its bytes
  pub taken-steps : (σ : List ℕ) (st st' : State) → steps o st σ ≡ more st' → taken st' ≡ taken st + length σ
  unfolding steps
  taken-steps [] st st' e = let f : st ≡ st' = cc in omega (arith, ap taken f)
  taken-steps (b ∷ σ) st st' e =
      go (step_of o st b) (moves-step st b) (λ s. taken-steps σ s st') (sym (steps-cons o st b σ) ∙ e)
    where
      go : (x : Step) → Moves (taken st) x → ((s : State) → steps o s σ ≡ more st' → taken st' ≡ taken s + length σ)
          → onward o x σ ≡ more st' → taken st' ≡ taken st + length (b ∷ σ)
      go (more s) m ih q = omega (arith, m, ih s q)
      go (done h) m ih q = zero_one (cc)
      go (refused code offset) m ih q = zero_one (cc)

-- behind a card's type and fix byte two bytes are taken
two : taken (in_width 0 absent 2 0 0) ≡ 2
unfolding steps step_of read_byte
two = taken-steps (inner false) (0 ∷ 0 ∷ []) start (in_width 0 absent 2 0 0) refl
