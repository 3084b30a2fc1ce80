-- The tests of planes to be written, and what they say of planes that they accept.
use Prim.Native.Nat.{ℕ, suc, ◌+◌, ◌-◌, ◌*◌, ◌/◌, ◌^◌, ◌≤◌, ◌<◌}
use mathlib.Core.Path.{◌≡◌, refl, ap, subst}
use mathlib.Core.Bool.{Bool, true, false}
use native.Mathlib.Nat.{mul_comm, mul-le-mul_left, mul-le-mul_right, le-div_iff_mul-le, div-lt_iff_lt-mul}
use native.Mathlib.Omega.{arith}
use borrow.Author.Tests.{lt-ltb, le-ltb, ltb-false, leb-true, leb-false}
use lib.Dec.{ltb, leb}
use Rattle.error.specs.Choice.{if}
use Rattle.error.specs.Answer.{Answer, gives, refuses, bind}
use Rattle.laws.proofs.Tests.{zero_one, if-true, if-false}
use Rattle.image.specs.Geometry.{row_bytes, plane_bytes, needed_bytes, check_geometry}
use Rattle.image.proofs.GeometryTests.{large}
use Rattle.image.proofs.PlaneFits.{PlaneFits, fits}
use Rattle.encoder.specs.File.{check_count}
use Rattle.encoder.specs.Write.{check_planes}
use Rattle.encoder.proofs.CountTests.{Counted, counted}

module _ (w h n s b : ℕ) where
  -- what is left to test behind the geometry
  abbrev pub after_geometry : Answer (Unit {0})
  after_geometry = if (ltb b (n * needed_bytes w h s)) (refuses 20 0) (gives tt)

  pub short : 0 < n → b / n < needed_bytes w h s → after_geometry ≡ refuses 20 0
  short p q =
      let k : b < needed_bytes w h s * n = (div-lt_iff_lt-mul p).0 q in
      let e = mul_comm n (needed_bytes w h s) in
      if-true _ _ _ (lt-ltb b (n * needed_bytes w h s) (omega arith))

  pub enough : 0 < n → needed_bytes w h s ≤ b / n → after_geometry ≡ gives tt
  enough p q =
      let k : needed_bytes w h s * n ≤ b = (le-div_iff_mul-le p).0 q in
      let e = mul_comm n (needed_bytes w h s) in
      if-false _ _ _ (le-ltb b (n * needed_bytes w h s) (omega arith))

  pub on-count : (ceiling : ℕ) (x : Answer (Unit {0})) → check_count ceiling w h n ≡ x
      → check_planes ceiling w h n s b ≡ bind x (λ _. bind (check_geometry w h s b) (λ _. after_geometry))
  unfolding check_planes
  on-count ceiling x e = ap (λ (y : Answer (Unit {0})). bind y (λ _. bind (check_geometry w h s b) (λ _. after_geometry))) e

  pub on-geometry : (x : Answer (Unit {0})) → check_geometry w h s b ≡ x
      → bind (check_geometry w h s b) (λ _. after_geometry) ≡ bind x (λ _. after_geometry)
  on-geometry x e = ap (λ (y : Answer (Unit {0})). bind y (λ _. after_geometry)) e

needed-small : (w h s b : ℕ) → check_geometry w h s b ≡ gives tt → needed_bytes w h s < 2 ^ 64
needed-small w h s b e = go (leb (2 ^ 64) (needed_bytes w h s)) refl
  where
    go : (t : Bool) → leb (2 ^ 64) (needed_bytes w h s) ≡ t → needed_bytes w h s < 2 ^ 64
    go true p =
        let f = fits w h s b e in
        let r = large w h s b f.wide f.high f.row (leb-true (2 ^ 64) (needed_bytes w h s) p) in
        zero_one (cc)
    go false p = leb-false (2 ^ 64) (needed_bytes w h s) p

-- what they say of planes that they accept
pub record Tested (ceiling w h n s b : ℕ) : Type 0 where
  pub frames : Counted ceiling w h n
  pub geometry : check_geometry w h s b ≡ gives tt
  pub small : needed_bytes w h s < 2 ^ 64
  pub plane : PlaneFits w h s b
  pub total : n * needed_bytes w h s ≤ b

pub tested : (ceiling w h n s b : ℕ) → check_planes ceiling w h n s b ≡ gives tt → Tested ceiling w h n s b
unfolding check_planes
tested ceiling w h n s b = go (check_count ceiling w h n) (check_geometry w h s b) (ltb b (n * needed_bytes w h s)) refl refl refl
  where
    go : (x y : Answer (Unit {0})) (t : Bool) → check_count ceiling w h n ≡ x → check_geometry w h s b ≡ y → ltb b (n * needed_bytes w h s) ≡ t
        → ◌≡◌ {A = Answer (Unit {0})} (bind x (λ _. bind y (λ _. if t (refuses 20 0) (gives tt)))) (gives tt) → Tested ceiling w h n s b
    go (gives _) (gives _) true p q r e = zero_one (cc)
    go (gives _) (gives _) false p q r e =
        record {
          frames = counted ceiling w h n p;
          geometry = q;
          small = needed-small w h s b q;
          plane = fits w h s b q;
          total = ltb-false b (n * needed_bytes w h s) r;
        }
    go (gives _) (refuses code offset) t p q r e = zero_one (cc)
    go (refuses code offset) y t p q r e = zero_one (cc)

-- a plane as a file has it is no longer than one that is lent
stretched : (r s k : ℕ) → r ≤ s → r * suc k ≤ s * k + r
stretched r s k p =
    let q : r * k ≤ s * k = mul-le-mul_right k p in
    let e : r * suc k ≡ r * k + r = omega arith in
    omega arith

pub plane-within : (w h s : ℕ) → 0 < h → row_bytes w ≤ s → plane_bytes w h ≤ needed_bytes w h s
plane-within w h s p q =
    let e : suc (h - 1) ≡ h = omega arith in
    subst (λ (k : ℕ). row_bytes w * k ≤ needed_bytes w h s) e (stretched (row_bytes w) s (h - 1) q)

module _ {ceiling w h n s b : ℕ} (c : Tested ceiling w h n s b) where
  pub body-within : n * plane_bytes w h ≤ b
  body-within =
      let p : n * plane_bytes w h ≤ n * needed_bytes w h s = mul-le-mul_left n (plane-within w h s c.plane.high c.plane.row) in
      omega (arith, c.total)
