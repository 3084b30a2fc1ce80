-- What the place says of whole frames, and the rule of room in a work buffer.
-- Assumes nothing.
use Prim.Native.Nat.{ℕ, zero, suc, ◌+◌, ◌-◌, ◌*◌, ◌/◌, ◌%◌, ◌≤◌, ◌<◌}
use mathlib.Core.Path.{◌≡◌, refl, sym, ap, ◌∙◌}
use mathlib.Core.Bool.{Bool, true, false, ◌&&◌}
use native.Mathlib.Nat.{mul-le-mul_right, mul-pos, zero-mul, add-zero, add-mul, one-mul, mul_comm}
use native.Mathlib.Omega.{arith}
use borrow.Author.Tests.{eq-eqb, ne_eqb, lt-ltb, le-ltb, ltb-true, ltb-false}
use lib.Dec.{ltb, eqb}
use Rattle.quantize.specs.declared.engine.Quantizer.{Quantizer}
use Rattle.rules.specs.Rule.{Rule, enough_work}
use Rattle.quantize.specs.Finished.{Setting, whole_frames}
use Rattle.quantize.specs.Internal.Place.{At}
use Rattle.quantize.specs.Internal.Engine.{QuantizerAt, room_for, behind_frames}
use Rattle.quantize.proofs.DotsByRule.{enough-work-same}
use Rattle.rules.proofs.PlaneBytes.{mod-at, div-at}

and-false : (a b : Bool) → b ≡ false → false ≡ (a && b)
and-false true b e = sym e
and-false false b e = refl

module _ (s : Setting) (n frames row column : ℕ) (a : At s n frames row column) where
  abbrev area : ℕ
  area = s.width * s.height

  -- whole frames, and what stands in the begun one
  split : (n ≡ (s.frames - frames) * area + (row * s.width + column)) × (row * s.width + column < area)
  split =
      let w = s.width in
      let h = s.height in
      let g = s.frames - frames in
      let p = a.place in
      let i = a.in_row in
      let l : (row + 1) * w ≤ h * w = mul-le-mul_right w (omega (arith, a.in_frame)) in
      let u : (row + 1) * w ≡ row * w + w = rw (add-mul, one-mul) in
      let v : h * w ≡ w * h = mul_comm h w in
      (omega arith, omega arith)

  rest-is : n % area ≡ row * s.width + column
  rest-is = rw split.0 (mod-at area (s.frames - frames) (row * s.width + column) split.1)

  pub frames-done : frames + n / area ≡ s.frames
  frames-done = rw (split.0, div-at area (s.frames - frames) (row * s.width + column) split.1) (omega (arith, a.most))

  pub in-row : (column ≡ 0 → ⊥) → false ≡ whole_frames s n
  in-row c =
      and-false (ltb 0 n) (eqb (n % (s.width * s.height)) 0) (ne_eqb (n % (s.width * s.height)) 0 (λ e. c (omega (arith, rest-is))))

  pub in_frame : (row ≡ 0 → ⊥) → false ≡ whole_frames s n
  in_frame c =
      let i = a.in_row in
      let l : 1 * s.width ≤ row * s.width = mul-le-mul_right s.width (omega (arith, c)) in
      and-false (ltb 0 n) (eqb (n % (s.width * s.height)) 0) (ne_eqb (n % (s.width * s.height)) 0 (λ e. omega (arith, rest-is)))

  module _ (top : row ≡ 0) (left : column ≡ 0) where
    whole-rest : eqb (n % (s.width * s.height)) 0 ≡ true
    whole-rest = eq-eqb (n % (s.width * s.height)) 0 (rest-is ∙ rw (top, left, zero-mul))

    place_is : n ≡ (s.frames - frames) * s.height * s.width
    place_is = a.place ∙ rw (top, left, add-zero, add-zero)

    some : frames < s.frames → 0 < n
    some l = rw place_is (mul-pos (mul-pos (omega arith) (omega (arith, a.in_frame))) (omega (arith, a.in_row)))

    none : s.frames ≤ frames → n ≤ 0
    none l = let z : s.frames - frames ≡ 0 = omega arith in rw (place_is, z, zero-mul, zero-mul) (omega arith)

    pub frames-left : frames < s.frames → true ≡ whole_frames s n
    frames-left l = rw (lt-ltb 0 n (some l), whole-rest)

    pub no-frame : s.frames ≤ frames → false ≡ whole_frames s n
    no-frame l = rw (le-ltb 0 n (none l))

-- what the engine's own place says of the samples behind it
pub frames-behind : (q : Quantizer) (s : Setting) (n : ℕ) → QuantizerAt q s n → behind_frames q s.frames ≡ whole_frames s n
frames-behind q s n t = go q.place.row q.place.column t.at
  where
    f : ℕ
    f = q.place.frames

    ended : (b : Bool) → ltb f s.frames ≡ b → At s n f 0 0 → b ≡ whole_frames s n
    ended true e a = frames-left s n f 0 0 a refl refl (ltb-true f s.frames e)
    ended false e a = no-frame s n f 0 0 a refl refl (ltb-false f s.frames e)

    go : (row column : ℕ) → At s n f row column → (eqb row 0 && (eqb column 0 && ltb f s.frames)) ≡ whole_frames s n
    go zero zero a = ended (ltb f s.frames) refl a
    go zero (suc column) a = rw (ne_eqb (suc column) 0 (λ e. omega arith)) (in-row s n f 0 (suc column) a (λ e. omega arith))
    go (suc row) column a = rw (ne_eqb (suc row) 0 (λ e. omega arith)) (in_frame s n f (suc row) column a (λ e. omega arith))

-- and its rule and width of the room
pub room-behind : (q : Quantizer) (s : Setting) (n work : ℕ) → QuantizerAt q s n → room_for q work ≡ enough_work s.rule s.width work
room-behind q s n work t =
    sym (enough-work-same q.rule q.table q.width work)
    ∙ ap (λ (x : Rule). enough_work x q.width work) (sym t.rule)
    ∙ ap (λ (w : ℕ). enough_work s.rule w work) (sym t.width)
