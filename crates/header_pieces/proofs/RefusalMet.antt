-- What a reading meets while bytes come is what it answers where they end, unless that is the refusal of an early end.
use Rattle.std.proofs.Common.{◌≡◌, ℕ, false, List, [], ◌∷◌, ◌++◌, sym, refl, ap, ◌∙◌, subst}
use Rattle.error.specs.Answer.{gives, refuses, is_end}
use Rattle.laws.proofs.Tests.{zero_one}
use Rattle.mbi.specs.Read.{read_byte, integer}
use Rattle.ext.specs.Kinds.{absent}
use Rattle.header.specs.Settings.{Settings, inner}
use Rattle.header.specs.Read.{Outline}
use Rattle.header_reader.specs.Internal.Machine.{State, start, Step, more, done, refused, fix_from, resume, steps, after}
use Rattle.header_reader.proofs.Machine.{steps-law, steps_all}
use Rattle.header_reader.proofs.StepReachable.{ReachableStep, reachable-steps, reachable-start}
use Rattle.header_reader.proofs.EndRefusal.{end_is, end_short}

module _ (o : Settings) (st : State) (σ : List ℕ) where
  -- a refusal that is no end is met
  pub meets : (code offset : ℕ) → is_end code ≡ false → resume o st σ ≡ refuses code offset → steps o st σ ≡ refused code offset
  meets code offset f e = go (steps o st σ) (sym (steps_all o σ st) ∙ e)
    where
      go : (x : Step) → after o x [] ≡ refuses code offset → x ≡ refused code offset
      go (more s) q = let z = sym (end_short o s code offset q) ∙ f in zero_one (cc)
      go (done h) q = zero_one (cc)
      go (refused c p) q = cc

  pub finds : (h : Outline) → resume o st σ ≡ gives h → steps o st σ ≡ done h
  finds h e = go (steps o st σ) (sym (steps_all o σ st) ∙ e)
    where
      go : (x : Step) → after o x [] ≡ gives h → x ≡ done h
      go (more s) q = let z = sym (end_is o s) ∙ q in zero_one (cc)
      go (done g) q = cc
      go (refused c p) q = zero_one (cc)

  -- what is met is the answer, whatever comes after it
  pub met : (code offset : ℕ) → steps o st σ ≡ refused code offset → (τ : List ℕ) → resume o st (σ ++ τ) ≡ refuses code offset
  met code offset e τ = steps-law o σ τ st ∙ ap (λ (x : Step). after o x τ) e

  pub found : (h : Outline) → steps o st σ ≡ done h → (τ : List ℕ) → resume o st (σ ++ τ) ≡ gives h
  found h e τ = steps-law o σ τ st ∙ ap (λ (x : Step). after o x τ) e

-- what is met from the start is no end
pub met-code : (o : Settings) (σ : List ℕ) (code offset : ℕ) → steps o start σ ≡ refused code offset → is_end code ≡ false
met-code o σ code offset e = subst ReachableStep e (reachable-steps o σ start reachable-start)

-- a card whose type is 5: the refusal is met with its one byte, whatever comes after it
five : steps (inner false) start (5 ∷ []) ≡ refused 5 1
unfolding resume integer read_byte
five = meets (inner false) start (5 ∷ []) 5 1 refl refl

five-on : (τ : List ℕ) → resume (inner false) start (5 ∷ τ) ≡ refuses 5 1
five-on = met (inner false) start (5 ∷ []) 5 1 five

five-code : is_end 5 ≡ false
five-code = met-code (inner false) (5 ∷ []) 5 1 five

-- a card of 9 by 2: its header is found with its fourth byte, whatever comes after it
abbrev nine : Outline
nine = record { width = 9; height = 2; fix = 0; fields = absent; body = 4 }

nine-found : steps (inner false) start (0 ∷ 0 ∷ 9 ∷ 2 ∷ []) ≡ done nine
unfolding resume integer read_byte fix_from
nine-found = finds (inner false) start (0 ∷ 0 ∷ 9 ∷ 2 ∷ []) nine refl

nine-on : (τ : List ℕ) → resume (inner false) start (0 ∷ 0 ∷ 9 ∷ 2 ∷ τ) ≡ gives nine
nine-on = found (inner false) start (0 ∷ 0 ∷ 9 ∷ 2 ∷ []) nine nine-found
