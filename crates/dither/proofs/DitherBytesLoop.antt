-- The invariant of `dither_bytes`: one byte after the other, with the residuals next to the following dot at hand.
-- Assumes nothing.
use Prim.Native.Nat.{ℕ, zero, suc, ◌+◌, ◌*◌, ◌≤◌, ◌<◌}
use mathlib.Core.Path.{◌≡◌, refl, sym, ap, ◌∙◌, subst}
use mathlib.Core.List.{List, [], ◌∷◌}
use native.Mathlib.Nat.{add-zero}
use native.Mathlib.Numerals.{add-one}
use native.Mathlib.Omega.{arith}
use lib.IntN.{ℤ, sub_ℕ}
use lib.ListN.{length, get_or, take, set, length-set}
use lib.Seq.{take_all, take-suc-set}
use Rattle.dither.specs.declared.dots.Neighbours.{Neighbours}
use Rattle.dither.specs.declared.dots.DitheredDots.{DitheredDots}
use Rattle.rules.specs.Bits.{bit}
use Rattle.rules.specs.Rule.{Rule, dither}
use Rattle.dither.specs.Internal.Carry.{Carry, corner_of, value_of, diffused, machine_dot, next}
use Rattle.dither.specs.Internal.Kernels.{Near, Diffused, row_carry, row_bit, carry_of, Dots}
use Rattle.dither.specs.Internal.Row.{Bytes}
use Rattle.rules.proofs.DigitsAppended.{appended-ext}
use Rattle.rules.proofs.ListPiece.{piece, piece-length}
use Rattle.dither.proofs.DitherDotsLoop.{dots-small}
use Rattle.dither.proofs.RowKept.{row-long}

pub bytes-none : (rule : Rule) (w y x : ℕ) (samples : List ℕ) (corner : ℕ) (work : List ℤ) (out : List ℕ) → length out ≡ 0
    → Bytes rule w y x samples corner work (length out) out corner work
unfolding Bytes
bytes-none rule w y x samples corner work [] e = (refl, (refl, refl))
bytes-none rule w y x samples corner work (b ∷ out) e = let z : ⊥ = omega arith in absurd z

-- at a row's start any corner will do
module _ (w y x : ℕ) (gray : List ℕ) (work : List ℤ) (a b : ℕ) (same : corner_of (sub_ℕ a 128) x ≡ corner_of (sub_ℕ b 128) x) where
  first : corner_of (sub_ℕ a 128) (x + 0) ≡ corner_of (sub_ℕ b 128) (x + 0)
  first = rw add-zero same

  carry_same : (i : ℕ) → row_carry dither w y x gray (carry_of a work) (suc i) ≡ row_carry dither w y x gray (carry_of b work) (suc i)
  unfolding row_carry next diffused value_of
  carry_same zero = rw first
  carry_same (suc i) = ap (next dither w y (x + suc i) (get_or gray (suc i) 0)) (carry_same i)

  bit-same : (i : ℕ) → row_bit dither w y x gray (carry_of a work) i ≡ row_bit dither w y x gray (carry_of b work) i
  unfolding row_bit row_carry machine_dot value_of
  bit-same zero = rw first
  bit-same (suc i) = ap (λ (c : Carry). bit (machine_dot dither w y (x + suc i) (get_or gray (suc i) 0) c)) (carry_same i)

  dots-corner : (begun dots corner : ℕ) (work' : List ℤ) → 0 < length gray → Dots dither w y x gray begun a work dots corner work'
      → Dots dither w y x gray begun b work dots corner work'
  dots-corner begun dots corner work' h d =
      record {
        digits =
            d.digits ∙ appended-ext begun (row_bit dither w y x gray (carry_of a work)) (row_bit dither w y x gray (carry_of b work))
            (length gray) (λ i _. bit-same i);
        carry = go (length gray) refl h ∙ d.carry;
        small = d.small;
      }
    where
      go : (n : ℕ) → n ≡ length gray → 0 < n
          → row_carry dither w y x gray (carry_of b work) (length gray) ≡ row_carry dither w y x gray (carry_of a work) (length gray)
      go zero e l = let z : ⊥ = omega arith in absurd z
      go (suc n) e l = rw (← e) (sym (carry_same n))

-- the number at hand is itself a corner
pub near-own : (w y x corner : ℕ) (work : List ℤ) (n : Neighbours) → Near w y x corner work n → Near w y x n.corner work n
near-own w y zero corner work n h = record { left_is = h.left_is; corner_is = h.corner_is; above_is = h.above_is }
near-own w y (suc x) corner work n h =
    record { left_is = h.left_is; corner_is = record { is = refl; small = h.corner_is.small }; above_is = h.above_is }

-- dots from the residuals at hand are those from the corner that these stand for
pub dots-near : (w y x : ℕ) (gray : List ℕ) (begun corner : ℕ) (work : List ℤ) (n : Neighbours) (r : DitheredDots) (work' : List ℤ)
    → Near w y x corner work n → Diffused w y x gray begun n.corner work r work' → 0 < length gray
    → Dots dither w y x gray begun corner work r.digits r.next.corner work'
dots-near w y x gray begun corner work n r work' h d some =
    let same : corner_of (sub_ℕ n.corner 128) x ≡ corner_of (sub_ℕ corner 128) x =
    (near-own w y x corner work n h).corner_is.is ∙ sym h.corner_is.is in
    dots-corner w y x gray work n.corner corner same begun r.digits r.next.corner work' some d.dots

module _ (w y x : ℕ) (samples : List ℕ) (corner : ℕ) (work₀ : List ℤ) (count : ℕ) where
  -- after k bytes
  pub record Chain (out : List ℕ) (work : List ℤ) (n : Neighbours) (k : ℕ) : Type 0 where
    pub bound : k ≤ count
    pub out_long : length out ≡ count
    pub work_long : length work ≡ length work₀
    pub last : ℕ
    pub bytes : Bytes dither w y x samples corner work₀ k (take k out) last work
    pub near : Near w y (x + 8 * k) last work n
    pub last_is : 0 < k → last ≡ n.corner

  pub chain-start : (out : List ℕ) (n : Neighbours) → length out ≡ count → Near w y x corner work₀ n → Chain out work₀ n 0
  unfolding Bytes
  chain-start out n e h =
      record {
        bound = omega arith;
        out_long = e;
        work_long = refl;
        last = corner;
        bytes = (refl, (refl, refl));
        near = rw add-zero h;
        last_is = λ h. let z : ⊥ = omega arith in absurd z;
      }

  module _ (out : List ℕ) (work : List ℤ) (n : Neighbours) (k : ℕ) (C : Chain out work n k) (more : k < count)
      (there : 8 * k + 8 ≤ length samples)
      (r : DitheredDots) (work' : List ℤ) (d : Diffused w y (x + 8 * k) (piece samples (8 * k) 8) 0 n.corner work r work') where
    piece-long : length (piece samples (8 * k) 8) ≡ 8
    piece-long = piece-length samples (8 * k) 8 there

    pub byte_small : r.digits < 256
    byte_small =
        dots-small dither w y (x + 8 * k) (piece samples (8 * k) 8) 0 n.corner work r.digits r.next.corner work' 0 8 d.dots
        (omega arith) piece-long

    work-long : length work' ≡ length work
    work-long =
        sym (ap (λ (c : Carry). length c.kept) d.dots.carry)
        ∙ row-long dither w y (x + 8 * k) (piece samples (8 * k) 8) (carry_of n.corner work) (length (piece samples (8 * k) 8))

    pub chain_more : Chain (set out k r.digits) work' r.next (k + 1)
    unfolding Bytes
    chain_more =
        let e : x + 8 * k + 8 ≡ x + 8 * (k + 1) = omega arith in
        record {
          bound = omega arith;
          out_long = length-set out k r.digits ∙ C.out_long;
          work_long = work-long ∙ C.work_long;
          last = r.next.corner;
          bytes = rw (add-one k)
              (record {
                bytes = take k out;
                corner = C.last;
                work = work;
                byte = r.digits;
                before = C.bytes;
                dots =
                    dots-near w y (x + 8 * k) (piece samples (8 * k) 8) 0 C.last work n r work' C.near d
                    (omega (arith, piece-long));
                more = take-suc-set out k r.digits (omega (arith, C.out_long));
              });
          near = subst (λ (i : ℕ). Near w y i r.next.corner work' r.next) e
              (subst (λ (i : ℕ). Near w y (x + 8 * k + i) r.next.corner work' r.next) piece-long d.near);
          last_is = λ _. refl;
        }

  pub chain-end : (out : List ℕ) (work : List ℤ) (n : Neighbours) (k : ℕ) → Chain out work n k → count ≤ k → 0 < count
      → Bytes dither w y x samples corner work₀ count out n.corner work
  chain-end out work n k C h s =
      let b = C.bound in
      let e : k ≡ count = omega arith in
      let all : take k out ≡ out = take_all k out (omega (arith, C.out_long)) in
      subst (λ (i : ℕ). Bytes dither w y x samples corner work₀ i out n.corner work) e
      (subst (λ (i : ℕ). Bytes dither w y x samples corner work₀ k out i work) (C.last_is (omega arith))
      (subst (λ (l : List ℕ). Bytes dither w y x samples corner work₀ k l C.last work) all C.bytes))
