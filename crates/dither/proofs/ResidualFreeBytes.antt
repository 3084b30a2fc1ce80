-- Black and white samples to which nothing is handed: dithering's bytes are those of the threshold 128, and it keeps what it found.
-- Assumes nothing.
use Prim.Native.Nat.{ℕ, zero, suc, ◌+◌, ◌-◌, ◌*◌, ◌/◌, ◌%◌, ◌≤◌, ◌<◌}
use mathlib.Core.Path.{◌≡◌, refl, sym, ap, ◌∙◌, subst}
use mathlib.Core.List.{List}
use mathlib.Core.Logic.{⊎_elim}
use native.Mathlib.Nat.{add-zero}
use native.Mathlib.Numerals.{add-one}
use native.Mathlib.Omega.{arith}
use borrow.Author.Tests.{le-leb, lt-leb}
use lib.Dec.{leb}
use lib.IntN.{ℤ, pos, sub_ℕ}
use lib.ListN.{length, get_or, take, drop, length-take, length-drop}
use lib.Seq.{get_or-take, get_or-drop}
use Rattle.dither.specs.declared.dots.Neighbours.{Neighbours}
use Rattle.rules.specs.Bits.{bit, digits, appended, upto}
use Rattle.rules.specs.Rule.{dither}
use Rattle.dither.specs.Internal.Carry.{left_of, corner_of, over_of}
use Rattle.rules.specs.Internal.Held.{Biased}
use Rattle.rules.specs.Internal.Kernels.{threshold_from, threshold_bytes}
use Rattle.dither.specs.Internal.Kernels.{Near, Dots}
use Rattle.dither.specs.Internal.Row.{ResidualFree, Bytes}
use Rattle.laws.proofs.Tests.{lt-or-le}
use Rattle.rules.proofs.ListPiece.{piece, piece-length, piece-at}
use Rattle.dither.proofs.CarryRead.{left_at, over-in}
use Rattle.dither.proofs.DitherDotsLoop.{Inv, biased-zero, corner-on, inv-start, inv-residual-free, inv-end}

-- the dot of a byte at 128
half : (g : ℕ) → g < 256 → g / 128 ≡ bit (leb 128 g)
half g h = ⊎_elim (λ l. rw (lt-leb 128 g l) (omega arith)) (λ l. rw (le-leb 128 g l) (omega arith)) (lt-or-le g 128)

-- one byte
module _ (w y x corner : ℕ) (samples : List ℕ) (from : ℕ) (work : List ℤ) (there : from + 8 ≤ length samples) (below : 0 < y)
    (in_row : x + 8 < w) (room : w ≤ length work)
    (octets : (i : ℕ) → get_or samples i 0 < 256) (plain : (i : ℕ) → i < 8 → get_or samples (from + i) 0 % 255 ≡ 0)
    (near : Near w y x corner work (record { left = 128; corner = 128; above = 128 }))
    (over : (i : ℕ) → i ≤ 8 → Biased (over_of w y work (x + i)) 128) where
  abbrev grays : List ℕ
  grays = piece samples from 8

  kept-to : (i : ℕ) → i ≤ 8 → Inv w y x grays 0 corner work work 128 (appended 0 (threshold_from 128 samples from) i) 128 128 i
  unfolding appended
  kept-to zero h = inv-start w y x grays 0 corner work 128 128 128 near.left_is near.corner_is near.above_is
  kept-to (suc i) h =
      let e = piece-at samples from 8 i (omega arith) in
      let g : get_or grays i 0 < 256 = subst (λ (n : ℕ). n < 256) e (octets (from + i)) in
      let p : get_or grays i 0 % 255 ≡ 0 = subst (λ (n : ℕ). n % 255 ≡ 0) e (plain i (omega arith)) in
      let d : get_or grays i 0 / 128 ≡ threshold_from 128 samples from i = half (get_or grays i 0) g ∙ ap (λ (n : ℕ). bit (leb 128 n)) (sym e) in
      let o : Biased (over_of w y work (x + i + 1)) 128 = subst (λ (n : ℕ). Biased (over_of w y work n) 128) (omega arith) (over (suc i) h) in
      rw (← add-one i, ← d)
      (inv-residual-free w y x grays 0 corner work work (appended 0 (threshold_from 128 samples from) i) i (kept-to i (omega arith)) o below
      (omega arith) room (omega (arith, piece-length samples from 8 there)) g p)

  pub residual-free-byte : Dots dither w y x grays 0 corner work (digits (threshold_from 128 samples from) 8) 128 work
  residual-free-byte =
      let n = piece-length samples from 8 there in
      inv-end w y x grays 0 corner work work 128 (appended 0 (threshold_from 128 samples from) 8) 128 128 8 (kept-to 8 (omega arith))
      (omega arith) (omega arith)

-- so many bytes
module _ (w y x corner : ℕ) (samples : List ℕ) (count : ℕ) (work : List ℤ) (n : Neighbours) (there : 8 * count ≤ length samples)
    (in_row : x + 8 * count < w) (room : w ≤ length work)
    (octets : (i : ℕ) → get_or samples i 0 < 256) (left_is : Biased (left_of work x) n.left)
    (corner_is : Biased (corner_of (sub_ℕ corner 128) x) n.corner)
    (residual-free : ResidualFree y n (take (8 * count) samples) (take (x + 8 * count + 1 - x) (drop x work))) where
  clear : (i : ℕ) → i ≤ 8 * count → get_or work (x + i) (pos 0) ≡ pos 0
  clear i h =
      sym (get_or-take (x + 8 * count + 1 - x) (drop x work) i (pos 0) (omega arith) ∙ get_or-drop x work i (pos 0))
      ∙ residual-free.clear i (omega (arith, length-take (x + 8 * count + 1 - x) (drop x work), length-drop x work))

  plain : (i : ℕ) → i < 8 * count → get_or samples i 0 % 255 ≡ 0
  plain i h =
      let e : 0 + i ≡ i = omega arith in
      subst (λ (j : ℕ). get_or samples j 0 % 255 ≡ 0) e
      (ap (λ (n : ℕ). n % 255) (sym (get_or-take (8 * count) samples (0 + i) 0 (omega arith)))
      ∙ residual-free.plain i (omega (arith, length-take (8 * count) samples)))

  -- the corner after so many bytes
  abbrev after : ℕ → ℕ
  after zero = corner
  after (suc k) = 128

  abbrev zeros : Neighbours
  zeros = record { left = 128; corner = 128; above = 128 }

  over : (i : ℕ) → i ≤ 8 * count → Biased (over_of w y work (x + i)) 128
  over i h = rw (over-in w work y (x + i) residual-free.below (omega arith), clear i h) biased-zero

  near : (k : ℕ) → k < count → Near w y (x + 8 * k) (after k) work zeros
  near zero h =
      record {
        left_is = rw add-zero (subst (λ (i : ℕ). Biased (left_of work x) i) residual-free.left_is left_is);
        corner_is = rw add-zero (subst (λ (i : ℕ). Biased (corner_of (sub_ℕ corner 128) x) i) residual-free.corner_is corner_is);
        above_is = over 0 (omega arith);
      }
  near (suc k) h =
      let i = 8 * k + 7 in
      let e : x + 8 * suc k ≡ x + i + 1 = omega arith in
      record {
        left_is = rw (left_at work (x + 8 * suc k) (x + i) e, clear i (omega arith)) biased-zero;
        corner_is = corner-on 128 (x + 8 * suc k) 128 (omega arith) (omega arith) refl;
        above_is = over (8 * suc k) (omega arith);
      }

  residual-free-bytes : (k : ℕ) → k ≤ count → Bytes dither w y x samples corner work k (threshold_bytes 128 samples k) (after k) work
  unfolding Bytes upto
  residual-free-bytes zero h = (refl, (refl, refl))
  residual-free-bytes (suc k) h =
      record {
        bytes = threshold_bytes 128 samples k;
        corner = after k;
        work = work;
        byte = digits (threshold_from 128 samples (8 * k)) 8;
        before = residual-free-bytes k (omega arith);
        dots =
            residual-free-byte w y (x + 8 * k) (after k) samples (8 * k) work (omega arith) residual-free.below (omega arith) room octets
            (λ i l. plain (8 * k + i) (omega arith))
            (near k (omega arith))
            (λ i l. let e : x + 8 * k + i ≡ x + (8 * k + i) = omega arith in rw e (over (8 * k + i) (omega arith)));
        more = refl;
      }

  pub residual-free-all : 0 < count → Bytes dither w y x samples corner work count (threshold_bytes 128 samples count) 128 work
  residual-free-all h = go count refl
    where
      go : (k : ℕ) → k ≡ count → Bytes dither w y x samples corner work count (threshold_bytes 128 samples count) 128 work
      go zero e = let z : ⊥ = omega arith in absurd z
      go (suc k) e =
          subst (λ (i : ℕ). Bytes dither w y x samples corner work i (threshold_bytes 128 samples i) 128 work) e
          (residual-free-bytes (suc k) (omega arith))
