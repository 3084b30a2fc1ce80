-- One sample of a row that runs to the right: the machine's value is the definition's, and the residuals that it keeps are those of the
-- samples so far.
-- Assumes nothing.
use Prim.Native.Nat.{ℕ, ◌+◌, ◌-◌, ◌*◌, ◌/◌, ◌%◌, ◌≤◌, ◌<◌}
use mathlib.Core.Path.{◌≡◌, ap, ◌∙◌}
use mathlib.Core.Logic.{⊎_elim}
use mathlib.Core.List.{List, [], ◌∷◌, ◌++◌}
use native.Mathlib.Nat.{mod-lt, eq-or-lt_of_le, add_assoc}
use native.Mathlib.Omega.{arith}
use lib.ListN.{length, length-append}
use lib.Seq.{get_or-append_seam}
use Rattle.rules.specs.Diffusion.{Scan, Direction, to_right, residual_at, value_at}
use Rattle.quantize.specs.Finished.{frame}
use Rattle.dither.specs.Internal.Carry.{Carry, value_of, diffused}
use Rattle.quantize.specs.Internal.Engine.{Diffusion}
use Rattle.dither.proofs.HeldRange.{Held}
use Rattle.rules.proofs.PlaneBytes.{div-at, mod-at}
use Rattle.quantize.proofs.Places.{next_row}
use Rattle.quantize.proofs.DotsDepend.{place_of, earlier, residual-same}
use Rattle.quantize.proofs.DiffusionFollows.{follows, corner-small, diffusion-on, diffusion-row, diffusion-frame}

module _ (w h : ℕ) (xs : List ℕ) (g : ℕ) (wide : 0 < w) (high : 0 < h) (byte : g < 256) where
  abbrev f : ℕ
  f = length xs / w / h

  abbrev y : ℕ
  y = length xs / w % h

  abbrev x : ℕ
  x = length xs % w

  pub here : frame w h (xs ++ (g ∷ [])) f x y ≡ g
  unfolding frame
  here = rw (← place_of w h (length xs)) (get_or-append_seam xs g [] 0)

  in-row : x < w
  in-row = mod-lt (length xs) wide

  in_frame : y < h
  in_frame = mod-lt (length xs / w) high

  up_to : (f * h + y) * w + x ≤ length xs
  up_to = let e = place_of w h (length xs) in omega arith

  -- a row that runs to the right
  module _ (dirs : ℕ → Direction) (runs : dirs y ≡ to_right) (c : Carry) (room : w ≤ length c.kept) (small : Held c.corner)
      (D : Diffusion dirs w (frame w h xs f) x y c) where
    abbrev c' : Carry
    c' = diffused (dirs (y - 1)) w y x g c

    abbrev q : Scan
    q = frame w h (xs ++ (g ∷ [])) f

    before : (j : ℕ) → j < x → residual_at dirs w (frame w h xs f) j y ≡ residual_at dirs w q j y
    before j m = residual-same w h xs (g ∷ []) f x y up_to dirs runs j m (omega (arith, in-row))

    pub value-next : value_of (dirs (y - 1)) w y x g c ≡ value_at dirs w q x y
    value-next = follows dirs w (frame w h xs f) q x y g c runs in-row room byte small (earlier w h xs (g ∷ []) f x y up_to) before here D

    pub corner-next : Held c'.corner
    corner-next =
        corner-small dirs w (frame w h xs f) q x y g c runs in-row room byte small (earlier w h xs (g ∷ []) f x y up_to) before here D

    one : length (xs ++ (g ∷ [])) ≡ (f * h + y) * w + x + 1
    one = length-append xs (g ∷ []) ∙ ap (λ (k : ℕ). k + 1) (place_of w h (length xs))

    -- the kept numbers after the samples ys
    abbrev pub Kept-by : List ℕ → Type 0
    Kept-by ys = Diffusion dirs w (frame w h ys (length ys / w / h)) (length ys % w) (length ys / w % h) c'

    -- wherever the next sample goes
    keeps-at : (f' y' x' : ℕ) → x' < w → y' < h → length (xs ++ (g ∷ [])) ≡ (f' * h + y') * w + x'
        → Diffusion dirs w (frame w h (xs ++ (g ∷ [])) f') x' y' c' → Kept-by (xs ++ (g ∷ []))
    keeps-at f' y' x' i j e d =
        rw (e, div-at w (f' * h + y') x' i, mod-at w (f' * h + y') x' i, div-at h f' y' j, mod-at h f' y' j) d

    pub keeps-next : Kept-by (xs ++ (g ∷ []))
    keeps-next =
        ⊎_elim
        (λ (k : x + 1 ≡ w).
        let r : (f * h + y) * w + x + 1 ≡ (f * h + y + 1) * w + 0 =
        (let t : (f * h + y) * w + x + 1 ≡ (f * h + y) * w + w = omega arith in t ∙ next_row w (f * h + y)) in
        ⊎_elim
        (λ (l : y + 1 ≡ h).
        keeps-at (f + 1) 0 0 wide high
        (one ∙ r ∙ ap (λ (t : ℕ). t * w + 0) (let t : f * h + y + 1 ≡ f * h + h = omega arith in t ∙ next_row h f))
        (diffusion-frame dirs w (frame w h (xs ++ (g ∷ [])) (f + 1)) c'))
        (λ (l : y + 1 < h).
        keeps-at f (y + 1) 0 wide l (one ∙ r ∙ ap (λ (t : ℕ). t * w + 0) (add_assoc (f * h) y 1))
        (diffusion-row dirs w (frame w h xs f) q x y g c runs in-row room byte small (earlier w h xs (g ∷ []) f x y up_to) before here D k))
        (eq-or-lt_of_le (omega (arith, in_frame))))
        (λ (k : x + 1 < w).
        keeps-at f y (x + 1) k in_frame (one ∙ add_assoc ((f * h + y) * w) x 1)
        (diffusion-on dirs w (frame w h xs f) q x y g c runs in-row room byte small (earlier w h xs (g ∷ []) f x y up_to) before here D))
        (eq-or-lt_of_le (omega (arith, in-row)))
