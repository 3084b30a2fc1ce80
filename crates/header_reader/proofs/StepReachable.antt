-- A step keeps a reading reachable, and its refusal is no end of the input.
use Prim.Native.Nat.{ℕ, ◌+◌, ◌/◌, ◌%◌, ◌<◌}
use mathlib.Core.Path.{◌≡◌, refl, subst⁻¹}
use mathlib.Core.Bool.{Bool, true, false, ◌&&◌, ◌||◌}
use mathlib.Core.List.{List, [], ◌∷◌}
use native.Mathlib.Omega.{arith}
use borrow.Author.Tests.{ltb-true, leb-false, eqb-false}
use lib.Dec.{ltb, leb, eqb}
use Rattle.error.specs.Choice.{if}
use Rattle.error.specs.Answer.{is_end}
use Rattle.mbi.specs.Read.{ByteRead, goes, ends, wrong, read_byte}
use Rattle.mbi.proofs.Step.{known}
use Rattle.ext.specs.Classes.{is_char, is_alpha_digit}
use Rattle.ext.specs.Kinds.{fields_follow, kind_bits}
use Rattle.ext.specs.Internal.Bytewise.{identifier_fault, value_fault}
use Rattle.header.specs.Settings.{Settings}
use Rattle.header_reader.specs.Internal.Machine.{State, in_type, at_fix, in_octets, at_octet, at_pair, in_identifier, in_value, in_width}
use Rattle.header_reader.specs.Internal.Machine.{in_height, start, Step, more, done, refused, on_byte, step_of, steps}
use Rattle.header_reader.specs.Internal.Standing.{Reachable}
use Rattle.header_reader.specs.Internal.Pieces.{onward}
use Rattle.header_reader.proofs.Machine.{steps-cons}

-- a fault that waits is 14 or 15
pub identifier-kept : (strict : Bool) (fault b : ℕ) → is_end fault ≡ false → is_end (identifier_fault strict fault b) ≡ false
unfolding identifier_fault
identifier-kept strict fault b h = go strict (is_char b)
  where
    go : (s t : Bool) → is_end (if s (if t fault 14) fault) ≡ false
    go true true = h
    go true false = refl
    go false t = h

pub value-kept : (strict : Bool) (fault b : ℕ) → is_end fault ≡ false → is_end (value_fault strict fault b) ≡ false
unfolding value_fault
value-kept strict fault b h = go (strict && eqb fault 0) (is_alpha_digit b)
  where
    go : (s t : Bool) → is_end (if s (if t fault 15) fault) ≡ false
    go true true = h
    go true false = refl
    go false t = h

abbrev pub ReachableStep : Step → Type 0
ReachableStep (more st) = Reachable st
ReachableStep (done h) = Unit {0}
ReachableStep (refused code offset) = is_end code ≡ false

pick : (t : Bool) (x y : Step) → (t ≡ true → ReachableStep x) → (t ≡ false → ReachableStep y) → ReachableStep (if t x y)
pick true x y p q = p refl
pick false x y p q = q refl

module _ (o : Settings) where
  number : (at v n b : ℕ) (r : ByteRead) (g l : ℕ → Step) → read_byte o.shortest at v n b ≡ r
      → ((w : ℕ) → n < 7 → ReachableStep (g w)) → ((w : ℕ) → ReachableStep (l w)) → ReachableStep (on_byte r g l)
  number at v n b (goes w) g l e p q = let k = known o.shortest v n b at (goes w) e in p w k.0.few
  number at v n b (ends w) g l e p q = q w
  number at v n b (wrong code offset) g l e p q = let k = known o.shortest v n b at (wrong code offset) e in k.0

  pub reachable-step : (st : State) (b : ℕ) → Reachable st → ReachableStep (step_of o st b)
  unfolding step_of
  reachable-step (in_type at v n) b s =
      number at v n b _ _ _ refl (λ w h. omega arith) (λ w. pick (eqb w 0) _ _ (λ e. omega arith) (λ e. refl))
  reachable-step (at_fix at) b s =
      pick (o.fix_zero && ltb 0 b) _ _ (λ e. refl)
      (λ e. pick (o.honoured && fields_follow b) _ _
      (λ e. pick (eqb (kind_bits b) 0) _ _ (λ e. omega arith)
      (λ e. pick (eqb (kind_bits b) 3) _ _ (λ e. omega arith) (λ e. omega arith)))
      (λ e. omega arith))
  reachable-step (in_octets fix from at) b s =
      pick (leb (from + 4096) at) _ _ (λ e. refl)
      (λ e. let h = leb-false (from + 4096) at e in pick (ltb b 128) _ _ (λ e. omega arith) (λ e. omega arith))
  reachable-step (at_octet fix at) b s = omega arith
  reachable-step (at_pair fix from at pairs) b s =
      pick (leb (from + 4096) at) _ _ (λ e. refl)
      (λ e. let h = leb-false (from + 4096) at e in pick (eqb (b / 16 % 8) 0) _ _ (λ e. refl)
      (λ e. let i = eqb-false (b / 16 % 8) 0 e in pick (eqb (b % 16) 0) _ _ (λ e. refl)
      (λ e. let j = eqb-false (b % 16) 0 e in (omega arith, omega arith, omega arith, omega arith, omega arith, omega arith, refl))))
  reachable-step (in_identifier fix from at pairs begun left size again fault) b s =
      let k = identifier-kept o.classes fault b s.6 in
      pick (ltb 1 left) _ _
      (λ e. let h = ltb-true 1 left e in (omega arith, omega arith, omega arith, omega arith, omega arith, omega arith, k))
      (λ e. (omega arith, omega arith, omega arith, omega arith, omega arith, k))
  reachable-step (in_value fix from at pairs begun left again fault) b s =
      let k = value-kept o.classes fault b s.5 in
      pick (ltb 1 left) _ _
      (λ e. let h = ltb-true 1 left e in (omega arith, omega arith, omega arith, omega arith, omega arith, k))
      (λ e. pick (eqb (value_fault o.classes fault b) 0) _ _ (λ e. pick again _ _ (λ e. omega arith) (λ e. omega arith)) (λ e. k))
  reachable-step (in_width fix f at v n) b s = number at v n b _ _ _ refl (λ w h. omega arith) (λ w. omega arith)
  reachable-step (in_height fix f w at v n) b s =
      number at v n b _ _ _ refl (λ h l. omega arith) (λ h. pick (eqb w 0 || eqb h 0) _ _ (λ e. refl) (λ e. tt))

  pub reachable-steps : (σ : List ℕ) (st : State) → Reachable st → ReachableStep (steps o st σ)
  unfolding steps
  reachable-steps [] st s = s
  reachable-steps (b ∷ σ) st s = subst⁻¹ ReachableStep (steps-cons o st b σ)
      (go (step_of o st b) (reachable-step st b s) (λ t. reachable-steps σ t))
    where
      go : (x : Step) → ReachableStep x → ((t : State) → Reachable t → ReachableStep (steps o t σ)) → ReachableStep (onward o x σ)
      go (more t) h ih = ih t h
      go (done h) k ih = tt
      go (refused code offset) h ih = h

pub reachable-start : Reachable start
reachable-start = omega arith
