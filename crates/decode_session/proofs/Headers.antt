-- The header of a file so far.
use Prim.Native.Nat.{ℕ, ◌<◌}
use mathlib.Core.Path.{◌≡◌, refl, sym, ap, ◌∙◌}
use mathlib.Core.List.{List, [], ◌∷◌, ◌++◌}
use native.Mathlib.Omega.{arith}
use lib.ListN.{length}
use Rattle.error.specs.Answer.{gives, refuses, map}
use Rattle.header.specs.Settings.{Settings}
use Rattle.header.specs.Read.{Outline, outline, read_header}
use Rattle.header_reader.specs.Internal.Machine.{State, Step, more, done, refused, start, steps, step_of, after}
use Rattle.header_reader.specs.Internal.Pieces.{onward}
use Rattle.header_reader.proofs.Machine.{steps-cons, steps-law, steps_all}
use Rattle.header_pieces.proofs.Direct.{direct}
use Rattle.header_pieces.proofs.RefusalMet.{finds, found}
use Rattle.header_reader.proofs.EndRefusal.{end_code, end_offset, end_is}
use Rattle.header_pieces.proofs.BytesTaken.{taken, Moves, moves-step, taken-steps}
use Rattle.header_pieces.proofs.Readings.{unread}

module _ (o : Settings) where
  -- a header that is done has its body behind the bytes taken before
  done-past : (σ : List ℕ) (st : State) (h : Outline) → steps o st σ ≡ done h → taken st < h.body
  unfolding steps
  done-past [] st h e = cc
  done-past (b ∷ σ) st h e = go (step_of o st b) (moves-step o st b) (λ s. done-past σ s h) (sym (steps-cons o st b σ) ∙ e)
    where
      go : (x : Step) → Moves (taken st) x → ((s : State) → steps o s σ ≡ done h → taken s < h.body) → onward o x σ ≡ done h
          → taken st < h.body
      go (more s) m ih q = omega (arith, m, ih s q)
      go (done g) m ih q = let e : g ≡ h = cc in omega (arith, m, ap (λ (g : Outline). g.body) e)
      go (refused code offset) m ih q = cc

  module _ (s : List ℕ) where
    -- bytes behind a header change nothing of it
    pub header-later : (h : Outline) → map outline (read_header o s) ≡ gives h → (τ : List ℕ) → map outline (read_header o (s ++ τ)) ≡ gives h
    header-later h e τ = direct o (s ++ τ) ∙ found o start s h (finds o start s h (sym (direct o s) ∙ e)) τ

    -- the bytes up to its body have it
    pub header-cut : (τ : List ℕ) (h : Outline) → map outline (read_header o (s ++ τ)) ≡ gives h → h.body ≡ length s
        → map outline (read_header o s) ≡ gives h
    header-cut τ h e n =
        direct o s ∙ steps_all o s start ∙ go (steps o start s) refl (sym (steps-law o s τ start) ∙ sym (direct o (s ++ τ)) ∙ e)
      where
        go : (x : Step) → steps o start s ≡ x → after o x τ ≡ gives h → after o x [] ≡ gives h
        go (more st) p q =
            let a = taken-steps o s start st p in
            let b = done-past τ st h (finds o st τ h q) in
            let z : ⊥ = omega arith in absurd z
        go (done g) p q = q
        go (refused code offset) p q = q

    -- a reading that goes on has no header yet
    pub unread-end : (st : State) → steps o start s ≡ more st → map outline (read_header o s) ≡ refuses (end_code st) (end_offset st)
    unread-end st e = unread o s st e ∙ end_is o st
