-- The machine of one byte at a time reads as the continuation form does, and a piece after a piece as the two in one.
use Prim.Native.Nat.{ℕ, ◌+◌, ◌/◌, ◌%◌}
use mathlib.Core.Path.{◌≡◌, ◌∙◌, refl, sym, ap}
use mathlib.Core.Bool.{Bool, true, false, ◌&&◌, ◌||◌}
use mathlib.Core.List.{List, [], ◌∷◌, ◌++◌, append-nil}
use lib.Dec.{ltb, leb, eqb}
use Rattle.error.specs.Choice.{if}
use Rattle.error.specs.Answer.{Answer}
use Rattle.mbi.specs.Read.{ByteRead, goes, ends, wrong, read_byte, integer, upon}
use Rattle.ext.specs.Kinds.{fields_follow, kind_bits}
use Rattle.ext.specs.Internal.Bytewise.{octets, octet, pairs_from, fields_from, value_fault}
use Rattle.header.specs.Settings.{Settings}
use Rattle.header.specs.Read.{Outline}
use Rattle.header_reader.specs.Internal.Machine.{State, in_type, at_fix, in_octets, at_octet, at_pair, in_identifier, in_value, in_width}
use Rattle.header_reader.specs.Internal.Machine.{in_height, Step, more, done, refused, on_byte, fix_from, resume, step_of, steps, after}
use Rattle.header_reader.specs.Internal.Pieces.{onward}

module _ (o : Settings) (τ : List ℕ) where
  pick : (t : Bool) (u v : Answer Outline) (x y : Step) → u ≡ after o x τ → v ≡ after o y τ
      → (elim t as (λ q. Answer Outline) [ true ↦ u | false ↦ v ]) ≡ after o (if t x y) τ
  pick true u v x y p q = p
  pick false u v x y p q = q

  choose : (t : Bool) (u v : Answer Outline) (x y : Step) → u ≡ after o x τ → v ≡ after o y τ → if t u v ≡ after o (if t x y) τ
  choose true u v x y p q = p
  choose false u v x y p q = q

  number : (r : ByteRead) (g l : ℕ → Answer Outline) (g' l' : ℕ → Step)
      → ((w : ℕ) → g w ≡ after o (g' w) τ) → ((w : ℕ) → l w ≡ after o (l' w) τ) → upon r g l ≡ after o (on_byte r g' l') τ
  number (goes w) g l g' l' p q = p w
  number (ends w) g l g' l' p q = q w
  number (wrong code offset) g l g' l' p q = refl

  -- the one-step law
  pub one-step : (st : State) (b : ℕ) → resume o st (b ∷ τ) ≡ after o (step_of o st b) τ
  unfolding resume step_of integer fix_from fields_from octets octet pairs_from
  one-step (in_type at v n) b =
      number (read_byte o.shortest at v n b) _ _ _ _ (λ w. refl) (λ w. choose (eqb w 0) _ _ _ _ refl refl)
  one-step (at_fix at) b =
      pick (o.fix_zero && ltb 0 b) _ _ _ _ refl
      (pick (o.honoured && fields_follow b) _ _ _ _
      (pick (eqb (kind_bits b) 0) _ _ _ _ refl (pick (eqb (kind_bits b) 3) _ _ _ _ refl refl))
      refl)
  one-step (in_octets fix from at) b = pick (leb (from + 4096) at) _ _ _ _ refl (pick (ltb b 128) _ _ _ _ refl refl)
  one-step (at_octet fix at) b = refl
  one-step (at_pair fix from at pairs) b =
      pick (leb (from + 4096) at) _ _ _ _ refl
      (pick (eqb (b / 16 % 8) 0) _ _ _ _ refl (pick (eqb (b % 16) 0) _ _ _ _ refl refl))
  one-step (in_identifier fix from at pairs begun left size again fault) b = pick (ltb 1 left) _ _ _ _ refl refl
  one-step (in_value fix from at pairs begun left again fault) b =
      pick (ltb 1 left) _ _ _ _ refl
      (pick (eqb (value_fault o.classes fault b) 0) _ _ _ _ (pick again _ _ _ _ refl refl) refl)
  one-step (in_width fix f at v n) b = number (read_byte o.shortest at v n b) _ _ _ _ (λ w. refl) (λ w. refl)
  one-step (in_height fix f w at v n) b =
      number (read_byte o.shortest at v n b) _ _ _ _ (λ h. refl) (λ h. choose (eqb w 0 || eqb h 0) _ _ _ _ refl refl)

module _ (o : Settings) where
  pub steps-cons : (st : State) (b : ℕ) (σ : List ℕ) → steps o st (b ∷ σ) ≡ onward o (step_of o st b) σ
  unfolding steps
  steps-cons st b σ = go (step_of o st b)
    where
      go : (x : Step)
          → (elim x as (λ q. Step) [ more st' ↦ steps o st' σ | done h ↦ done h | refused code offset ↦ refused code offset ])
          ≡ onward o x σ
      go (more st') = refl
      go (done h) = refl
      go (refused code offset) = refl

  -- taking σ, whatever comes after it
  pub steps-law : (σ τ : List ℕ) (st : State) → resume o st (σ ++ τ) ≡ after o (steps o st σ) τ
  unfolding steps
  steps-law [] τ st = refl
  steps-law (b ∷ σ) τ st =
      one-step o (σ ++ τ) st b ∙ go (step_of o st b) (λ s. steps-law σ τ s)
      ∙ ap (λ (x : Step). after o x τ) (sym (steps-cons st b σ))
    where
      go : (x : Step) → ((s : State) → resume o s (σ ++ τ) ≡ after o (steps o s σ) τ) → after o x (σ ++ τ) ≡ after o (onward o x σ) τ
      go (more s) ih = ih s
      go (done h) ih = refl
      go (refused code offset) ih = refl

  -- any cut: a piece after a piece is the two in one
  pub steps-append : (σ ρ : List ℕ) (st : State) → steps o st (σ ++ ρ) ≡ onward o (steps o st σ) ρ
  unfolding steps
  steps-append [] ρ st = refl
  steps-append (b ∷ σ) ρ st =
      steps-cons st b (σ ++ ρ) ∙ go (step_of o st b) (λ s. steps-append σ ρ s)
      ∙ ap (λ (x : Step). onward o x ρ) (sym (steps-cons st b σ))
    where
      go : (x : Step) → ((s : State) → steps o s (σ ++ ρ) ≡ onward o (steps o s σ) ρ) → onward o x (σ ++ ρ) ≡ onward o (onward o x σ) ρ
      go (more s) ih = ih s
      go (done h) ih = refl
      go (refused code offset) ih = refl

  -- a reading that ends after σ
  pub steps_all : (σ : List ℕ) (st : State) → resume o st σ ≡ after o (steps o st σ) []
  steps_all σ st = ap (resume o st) (sym (append-nil σ)) ∙ steps-law σ [] st
