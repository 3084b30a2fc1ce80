-- THE MACHINE FOLLOWS THE DEFINITION: one sample of a row that runs to the right, below a row that ran in either direction. The machine's
-- dot is the definition's, and what it keeps are the definition's residuals.
-- Assumes nothing.
use Prim.Native.Nat.{ℕ, zero, suc, ◌+◌, ◌-◌, ◌≤◌, ◌<◌}
use mathlib.Core.Path.{◌≡◌, refl, sym, ap, ◌∙◌, subst}
use mathlib.Core.Logic.{⊎_elim}
use mathlib.Core.List.{List}
use native.Mathlib.Numerals.{add-one}
use native.Mathlib.Nat.{eq-or-lt_of_le}
use native.Mathlib.Omega.{arith}
use borrow.Author.Tests.{lt-ltb, le-ltb}
use lib.IntN.{ℤ, pos}
use lib.ListN.{length, get_or}
use lib.Seq.{get_or-set_same, get_or-set_other}
use Rattle.rules.specs.Diffusion.{Scan, Direction, to_right, to_left, value, residual, on_left, on_right, before, after, above}
use Rattle.rules.specs.Diffusion.{value_at, residual_at}
use Rattle.dither.specs.Internal.Carry.{Carry, clamp, left_of, corner_of, over_of, value_of, diffused}
use Rattle.quantize.specs.Internal.Engine.{Diffusion}
use Rattle.laws.proofs.Tests.{lt-or-le}
use Rattle.dither.proofs.HeldRange.{Held, within, held, clamp-same, clamp-held, residual-held}
use Rattle.dither.proofs.CarryRead.{over-in, over-past, over-top}
use Rattle.rules.proofs.DotCauses.{above-ext, residual-is, value-is, above-top}

held-zero : Held (pos 0)
held-zero = held (pos 0) (omega arith)

over-held : (w y : ℕ) (kept : List ℤ) (x : ℕ) → Held (over_of w y kept x)
over-held w y kept x =
    ⊎_elim
    (λ (h : 0 < y). ⊎_elim
    (λ (k : x < w). rw (over-in w kept y x h k) (clamp-held (get_or kept x (pos 0))))
    (λ (k : w ≤ x). rw (over-past w kept y x h k) held-zero)
    (lt-or-le x w))
    (λ (h : y ≤ 0). rw (over-top w kept y x h) held-zero)
    (lt-or-le 0 y)

left-held : (kept : List ℤ) (x : ℕ) → Held (left_of kept x)
left-held kept zero = held-zero
left-held kept (suc x) = clamp-held (get_or kept x (pos 0))

corner-held : (c : ℤ) (x : ℕ) → Held c → Held (corner_of c x)
corner-held c zero h = held-zero
corner-held c (suc x) h = h

-- the scan p before the sample and q after it: they agree up to column x of row y, where q has the sample
module _ (dirs : ℕ → Direction) (w : ℕ) (p q : Scan) (x y g : ℕ) (c : Carry) (runs : dirs y ≡ to_right) (in_row : x < w)
    (room : w ≤ length c.kept) (byte : g < 256) (small : Held c.corner)
    (earlier : (j k : ℕ) → k < y → j < w → p j k ≡ q j k) (sofar : (j : ℕ) → j < x → residual_at dirs w p j y ≡ residual_at dirs w q j y)
    (here : q x y ≡ g) (D : Diffusion dirs w p x y c) where
  -- the direction of the row above
  abbrev e : Direction
  e = dirs (y - 1)

  over-is : (k : ℕ) → x ≤ k → k < w → over_of w y c.kept k ≡ above dirs w q y k
  over-is k h l =
      ⊎_elim
      (λ (m : 0 < y). over-in w c.kept y k m l ∙ D.ahead k h l m ∙ above-ext dirs w p q y earlier k l)
      (λ (m : y ≤ 0). over-top w c.kept y k m ∙ (let z : y ≡ 0 = omega arith in rw z (sym (above-top dirs w q k))))
      (lt-or-le 0 y)

  ahead-is : over_of w y c.kept (x + 1) ≡ on_right w (above dirs w q y) x
  ahead-is =
      ⊎_elim
      (λ (h : suc x < w). rw (add-one x, lt-ltb (suc x) w h) (over-is (suc x) (omega arith) h))
      (λ (h : w ≤ suc x). rw (add-one x, le-ltb (suc x) w h)
      (⊎_elim (λ (m : 0 < y). over-past w c.kept y (suc x) m h) (λ (m : y ≤ 0). over-top w c.kept y (suc x) m) (lt-or-le 0 y)))
      (lt-or-le (suc x) w)

  left_is : (k : ℕ) → k ≤ x → left_of c.kept k ≡ on_left (λ j. residual_at dirs w q j y) k
  left_is zero h = refl
  left_is (suc k) h = D.done k h ∙ sofar k h

  corner-is : (k : ℕ) → k ≡ x → corner_of c.corner k ≡ on_left (above dirs w q y) k
  corner-is zero i = refl
  corner-is (suc k) i =
      let t : c.corner ≡ on_left (above dirs w p y) (suc k) =
      subst (λ (n : ℕ). c.corner ≡ on_left (above dirs w p y) n) (sym i) (D.corner (omega arith)) in
      t ∙ above-ext dirs w p q y earlier k (omega arith)

  from-above : (d : Direction)
      → value_of d w y x g c
      ≡ value (q x y) (on_left (λ j. residual_at dirs w q j y) x) (before d w (above dirs w q y) x) (above dirs w q y x)
      (after d w (above dirs w q y) x)
  unfolding value_of
  from-above to_right = rw (left_is x (omega arith), corner-is x refl, over-is x (omega arith) in_row, ahead-is, ← here)
  from-above to_left = rw (left_is x (omega arith), corner-is x refl, over-is x (omega arith) in_row, ahead-is, ← here)

  pub follows : value_of e w y x g c ≡ value_at dirs w q x y
  follows =
      from-above e
      ∙ sym (value-is dirs w q x y in_row
      ∙ ap (λ (d : Direction). value (q x y) (before d w (λ k. residual_at dirs w q k y) x) (before e w (above dirs w q y) x)
      (above dirs w q y x) (after e w (above dirs w q y) x)) runs)

  value-held : (d : Direction) → Held (residual (value_of d w y x g c))
  unfolding value_of
  value-held to_right =
      residual-held g (left_of c.kept x) (corner_of c.corner x) (over_of w y c.kept x) (over_of w y c.kept (x + 1)) byte
      (left-held c.kept x) (corner-held c.corner x small) (over-held w y c.kept x) (over-held w y c.kept (x + 1))
  value-held to_left =
      residual-held g (left_of c.kept x) (over_of w y c.kept (x + 1)) (over_of w y c.kept x) (corner_of c.corner x) byte
      (left-held c.kept x) (over-held w y c.kept (x + 1)) (over-held w y c.kept x) (corner-held c.corner x small)

  rest-held : Held (residual (value_of e w y x g c))
  rest-held = value-held e

  abbrev c' : Carry
  c' = diffused e w y x g c

  pub corner-small : Held c'.corner
  unfolding diffused
  corner-small = over-held w y c.kept x

  -- this row's residuals, up to the new dot
  pub done-is : (k : ℕ) → k ≤ x → clamp (get_or c'.kept k (pos 0)) ≡ residual_at dirs w q k y
  unfolding diffused
  done-is k h =
      ⊎_elim
      (λ (i : k ≡ x).
      rw (i, get_or-set_same c.kept x (residual (value_of e w y x g c)) (pos 0) (omega arith))
      (clamp-same (residual (value_of e w y x g c)) (within _ rest-held) ∙ ap residual follows ∙ sym (residual-is dirs w q x y)))
      (λ (l : k < x).
      rw (get_or-set_other c.kept x k (residual (value_of e w y x g c)) (pos 0) (λ i. omega arith)) (D.done k l ∙ sofar k l))
      (eq-or-lt_of_le h)

  pub ahead-are : (k : ℕ) → x < k → k < w → 0 < y → clamp (get_or c'.kept k (pos 0)) ≡ above dirs w q y k
  unfolding diffused
  ahead-are k h l m =
      rw (get_or-set_other c.kept x k (residual (value_of e w y x g c)) (pos 0) (λ i. omega arith))
      (D.ahead k (omega arith) l m ∙ above-ext dirs w p q y earlier k l)

  -- the next dot is in the same row
  pub diffusion-on : Diffusion dirs w q (x + 1) y c'
  unfolding diffused
  diffusion-on =
      record {
        done = λ k h. done-is k (omega arith);
        ahead = λ k h l m. ahead-are k (omega arith) l m;
        corner = λ h. rw add-one (over-is x (omega arith) in_row);
      }

  -- the next dot is in the row below
  pub diffusion-row : x + 1 ≡ w → Diffusion dirs w q 0 (y + 1) c'
  diffusion-row i =
      record {
        done = λ k h. let f : ⊥ = omega arith in absurd f;
        ahead = λ k h l m. rw add-one (done-is k (omega arith));
        corner = λ h. let f : ⊥ = omega arith in absurd f;
      }

-- the next dot is the first of a frame
pub diffusion-frame : (dirs : ℕ → Direction) (w : ℕ) (scan : Scan) (c : Carry) → Diffusion dirs w scan 0 0 c
diffusion-frame dirs w scan c =
    record {
      done = λ k h. let f : ⊥ = omega arith in absurd f;
      ahead = λ k h l m. let f : ⊥ = omega arith in absurd f;
      corner = λ h. let f : ⊥ = omega arith in absurd f;
    }
