-- The test of a file's size and of its count of frames, case by case.
use Prim.Native.Nat.{ℕ, ◌≤◌, ◌<◌}
use mathlib.Core.Path.{◌≡◌, refl}
use mathlib.Core.Bool.{Bool, true, false, ◌||◌, ◌&&◌}
use native.Mathlib.Omega.{arith}
use borrow.Author.Tests.{ne_eqb, eqb-false, le-leb, leb-true}
use lib.Dec.{leb, eqb}
use Rattle.error.specs.Choice.{if}
use Rattle.error.specs.Answer.{Answer, gives, refuses}
use Rattle.laws.proofs.Tests.{zero_one}
use Rattle.encoder.specs.File.{check_count}

pub accepted : (ceiling w h n : ℕ) → 0 < w → 0 < h → 1 ≤ n → n ≤ ceiling → check_count ceiling w h n ≡ gives tt
accepted ceiling w h n wide high p q = rw (ne_eqb w 0 (λ z. omega arith), ne_eqb h 0 (λ z. omega arith), le-leb 1 n p, le-leb n ceiling q)

-- what it says of a file that it accepts
pub record Counted (ceiling w h n : ℕ) : Type 0 where
  pub wide : 0 < w
  pub high : 0 < h
  pub some : 1 ≤ n
  pub few : n ≤ ceiling

pub counted : (ceiling w h n : ℕ) → check_count ceiling w h n ≡ gives tt → Counted ceiling w h n
counted ceiling w h n = go (eqb w 0) (eqb h 0) (leb 1 n) (leb n ceiling) refl refl refl refl
  where
    go : (a b c d : Bool) → eqb w 0 ≡ a → eqb h 0 ≡ b → leb 1 n ≡ c → leb n ceiling ≡ d
        → ◌≡◌ {A = Answer (Unit {0})} (if (a || b) (refuses 8 0) (if (c && d) (gives tt) (refuses 21 0))) (gives tt) → Counted ceiling w h n
    go true b c d p q r s e = zero_one (cc)
    go false true c d p q r s e = zero_one (cc)
    go false false false d p q r s e = zero_one (cc)
    go false false true false p q r s e = zero_one (cc)
    go false false true true p q r s e =
        let k = eqb-false w 0 p in
        let l = eqb-false h 0 q in
        record { wide = omega (arith, k); high = omega (arith, l); some = leb-true 1 n r; few = leb-true n ceiling s }
