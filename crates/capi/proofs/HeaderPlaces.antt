-- A header ends, or is refused, near the front of its file: with a number below 32 and an offset below 8,192.
use Prim.Native.Nat.{ℕ, ◌+◌, ◌*◌, ◌/◌, ◌%◌, ◌<◌, ◌≤◌}
use mathlib.Core.Path.{◌≡◌, ◌∙◌, refl, subst⁻¹}
use mathlib.Core.Bool.{Bool, true, false, ◌&&◌, ◌||◌}
use mathlib.Core.List.{List, [], ◌∷◌}
use native.Mathlib.Omega.{arith}
use borrow.Author.Tests.{eqb-false}
use lib.Dec.{ltb, leb, eqb}
use Rattle.error.specs.Choice.{if}
use Rattle.error.specs.Answer.{Answer, gives, refuses, map}
use Rattle.laws.proofs.Tests.{zero_one, if-elim}
use Rattle.mbi.specs.Read.{ByteRead, goes, ends, wrong, read_byte}
use Rattle.ext.specs.Kinds.{fields_follow, kind_bits}
use Rattle.ext.specs.Classes.{is_char, is_alpha_digit}
use Rattle.ext.specs.Internal.Bytewise.{identifier_fault, value_fault}
use Rattle.header.specs.Settings.{Settings}
use Rattle.header.specs.Read.{Outline, outline, read_header}
use Rattle.header_reader.specs.Internal.Machine.{State, in_type, at_fix, in_octets, at_octet, at_pair, in_identifier, in_value, in_width, in_height}
use Rattle.header_reader.specs.Internal.Machine.{start, Step, more, done, refused, on_byte, step_of, steps, after}
use Rattle.header_reader.specs.Internal.Represents.{Reachable}
use Rattle.header_reader.specs.Internal.Pieces.{onward}
use Rattle.header_reader.proofs.Machine.{steps-cons, steps_all}
use Rattle.header_reader.proofs.StepReachable.{ReachableStep, reachable-step, reachable-start}
use Rattle.header_reader.proofs.EndRefusal.{end_code, end_offset, end_is}
use Rattle.header_pieces.proofs.Direct.{direct}

pub record Told (code offset : ℕ) : Type 0 where
  pub some : 0 < code
  pub small : code < 32
  pub near : offset < 8192

pub told : {code offset : ℕ} → 0 < code → code < 32 → offset < 8192 → Told code offset
told p q r = record { some = p; small = q; near = r }

-- what a state keeps for a refusal that may come: where the begun part starts, and the waiting fault
abbrev Waits : State → Type 0
Waits (in_type at v n) = Unit {0}
Waits (at_fix at) = Unit {0}
Waits (in_octets fix from at) = Unit {0}
Waits (at_octet fix at) = Unit {0}
Waits (at_pair fix from at pairs) = Unit {0}
Waits (in_identifier fix from at pairs begun left size again fault) = (begun ≤ at) × (fault < 32)
Waits (in_value fix from at pairs begun left again fault) = (begun ≤ at) × (fault < 32)
Waits (in_width fix f at v n) = Unit {0}
Waits (in_height fix f w at v n) = Unit {0}

abbrev Near : Step → Type 0
Near (more st) = Reachable st × Waits st
Near (done h) = h.body < 8192
Near (refused code offset) = Told code offset

identifier-small : (strict : Bool) (fault b : ℕ) → fault < 32 → identifier_fault strict fault b < 32
unfolding identifier_fault
identifier-small strict fault b h = go strict (is_char b)
  where
    go : (s t : Bool) → if s (if t fault 14) fault < 32
    go true true = h
    go true false = omega arith
    go false t = h

value-small : (strict : Bool) (fault b : ℕ) → fault < 32 → value_fault strict fault b < 32
unfolding value_fault
value-small strict fault b h = go (strict && eqb fault 0) (is_alpha_digit b)
  where
    go : (s t : Bool) → if s (if t fault 15) fault < 32
    go true true = h
    go true false = omega arith
    go false t = h

-- an integer is refused at the byte or after it
wrong-told : (strict : Bool) (at v n b code offset : ℕ) → at < 8191 → read_byte strict at v n b ≡ wrong code offset → Told code offset
unfolding read_byte
wrong-told strict at v n b code offset h e =
    go (strict && eqb n 0 && eqb b 128) (ltb 4294967295 (v * 128 + b % 128)) (ltb 7 (n + 1)) (ltb b 128) e
  where
    is : (c p : ℕ) → Told c p → c ≡ code → p ≡ offset → Told code offset
    is c p t x y = told (omega (arith, t.some)) (omega (arith, t.small)) (omega (arith, t.near))

    go : (t1 t2 t3 t4 : Bool)
        → if t1 (wrong 4 at)
        (if t2 (wrong 2 (at + 1))
        (if t3 (wrong 3 (at + 1)) (if t4 (ends (v * 128 + b % 128)) (goes (v * 128 + b % 128))))) ≡ wrong code offset
        → Told code offset
    go true t2 t3 t4 q = is 4 at (told (omega arith) (omega arith) (omega arith)) (cc) (cc)
    go false true t3 t4 q = is 2 (at + 1) (told (omega arith) (omega arith) (omega arith)) (cc) (cc)
    go false false true t4 q = is 3 (at + 1) (told (omega arith) (omega arith) (omega arith)) (cc) (cc)
    go false false false true q = zero_one (cc)
    go false false false false q = zero_one (cc)

-- the part of `Near` that a reachable step does not say by itself
abbrev Tells : Step → Type 0
Tells (more st) = Waits st
Tells (done h) = h.body < 8192
Tells (refused code offset) = Told code offset

pick : (t : Bool) (x y : Step) → Tells x → (t ≡ false → Tells y) → Tells (if t x y)
pick t x y p q = if-elim Tells t x y (λ _. p) q

module _ (o : Settings) where
  number : (at v n b : ℕ) (r : ByteRead) (g l : ℕ → Step) → at < 8191 → read_byte o.shortest at v n b ≡ r
      → ((w : ℕ) → Tells (g w)) → ((w : ℕ) → Tells (l w)) → Tells (on_byte r g l)
  number at v n b (goes w) g l h e p q = p w
  number at v n b (ends w) g l h e p q = q w
  number at v n b (wrong code offset) g l h e p q = wrong-told o.shortest at v n b code offset h e

  tells-step : (st : State) (b : ℕ) → Reachable st → Waits st → Tells (step_of o st b)
  unfolding step_of
  tells-step (in_type at v n) b s k =
      number at v n b _ _ _ (omega arith) refl (λ w. tt)
      (λ w. pick (eqb w 0) _ _ tt (λ e. told (omega arith) (omega arith) (omega arith)))
  tells-step (at_fix at) b s k =
      pick (o.fix_zero && ltb 0 b) _ _ (told (omega arith) (omega arith) (omega arith))
      (λ e. pick (o.honoured && fields_follow b) _ _
      (pick (eqb (kind_bits b) 0) _ _ tt (λ e. pick (eqb (kind_bits b) 3) _ _ tt (λ e. tt)))
      (λ e. tt))
  tells-step (in_octets fix from at) b s k =
      pick (leb (from + 4096) at) _ _ (told (omega arith) (omega arith) (omega arith)) (λ e. pick (ltb b 128) _ _ tt (λ e. tt))
  tells-step (at_octet fix at) b s k = tt
  tells-step (at_pair fix from at pairs) b s k =
      pick (leb (from + 4096) at) _ _ (told (omega arith) (omega arith) (omega arith))
      (λ e. pick (eqb (b / 16 % 8) 0) _ _ (told (omega arith) (omega arith) (omega arith))
      (λ e. pick (eqb (b % 16) 0) _ _ (told (omega arith) (omega arith) (omega arith)) (λ e. (omega arith, omega arith))))
  tells-step (in_identifier fix from at pairs begun left size again fault) b s k =
      let f = identifier-small o.classes fault b k.1 in
      pick (ltb 1 left) _ _ (omega arith, f) (λ e. (omega arith, f))
  tells-step (in_value fix from at pairs begun left again fault) b s k =
      let f = value-small o.classes fault b k.1 in
      pick (ltb 1 left) _ _ (omega arith, f)
      (λ e. pick (eqb (value_fault o.classes fault b) 0) _ _ (pick again _ _ tt (λ e. tt))
      (λ e. let z = eqb-false (value_fault o.classes fault b) 0 e in told (omega arith) f (omega arith)))
  tells-step (in_width fix f at v n) b s k = number at v n b _ _ _ (omega arith) refl (λ w. tt) (λ w. tt)
  tells-step (in_height fix f w at v n) b s k =
      number at v n b _ _ _ (omega arith) refl (λ h. tt)
      (λ h. pick (eqb w 0 || eqb h 0) _ _ (told (omega arith) (omega arith) (omega arith)) (λ e. omega arith))

  both : (x : Step) → ReachableStep x → Tells x → Near x
  both (more st) s k = (s, k)
  both (done h) s k = k
  both (refused code offset) s k = k

  near-steps : (σ : List ℕ) (st : State) → Reachable st → Waits st → Near (steps o st σ)
  unfolding steps
  near-steps [] st s k = (s, k)
  near-steps (b ∷ σ) st s k =
      subst⁻¹ Near (steps-cons o st b σ)
      (go (step_of o st b) (both (step_of o st b) (reachable-step o st b s) (tells-step st b s k)) (λ t. near-steps σ t))
    where
      go : (x : Step) → Near x → ((t : State) → Reachable t → Waits t → Near (steps o t σ)) → Near (onward o x σ)
      go (more t) h ih = ih t h.0 h.1
      go (done h) k ih = k
      go (refused code offset) h ih = h

end-told : (st : State) → Reachable st → Waits st → Told (end_code st) (end_offset st)
end-told (in_type at v n) s k = told (omega arith) (omega arith) (omega arith)
end-told (at_fix at) s k = told (omega arith) (omega arith) (omega arith)
end-told (in_octets fix from at) s k = told (omega arith) (omega arith) (omega arith)
end-told (at_octet fix at) s k = told (omega arith) (omega arith) (omega arith)
end-told (at_pair fix from at pairs) s k = told (omega arith) (omega arith) (omega arith)
end-told (in_identifier fix from at pairs begun left size again fault) s k = told (omega arith) (omega arith) (omega arith)
end-told (in_value fix from at pairs begun left again fault) s k = told (omega arith) (omega arith) (omega arith)
end-told (in_width fix f at v n) s k = told (omega arith) (omega arith) (omega arith)
end-told (in_height fix f w at v n) s k = told (omega arith) (omega arith) (omega arith)

-- where a body starts and what a refusal says
abbrev pub Placed : Answer Outline → Type 0
Placed (gives h) = h.body < 8192
Placed (refuses code offset) = Told code offset

pub header-placed : (o : Settings) (s : List ℕ) → Placed (map outline (read_header o s))
header-placed o s =
    subst⁻¹ Placed (direct o s ∙ steps_all o s start) (go (steps o start s) (near-steps o s start reachable-start tt))
  where
    go : (x : Step) → Near x → Placed (after o x [])
    go (more st) k = subst⁻¹ Placed (end_is o st) (end-told st k.0 k.1)
    go (done h) k = k
    go (refused code offset) k = k
