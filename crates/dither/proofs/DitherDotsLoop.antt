-- The invariant of `dither_dots`, that a turn keeps it, and what it says at the end.
-- Assumes nothing.
use Prim.Native.Nat.{ℕ, suc, ◌+◌, ◌*◌, ◌/◌, ◌%◌, ◌^◌, ◌≤◌, ◌<◌}
use mathlib.Core.Path.{◌≡◌, refl, sym, ap, ◌∙◌, subst}
use mathlib.Core.List.{List}
use native.Mathlib.Nat.{add-zero}
use native.Mathlib.Numerals.{add-one}
use native.Mathlib.Omega.{arith}
use lib.IntN.{ℤ, pos, sub_ℕ}
use lib.ListN.{length, get_or, set, length-set}
use lib.Seq.{get_or-set_same}
use Rattle.rules.specs.Bits.{bit, appended}
use Rattle.rules.specs.Diffusion.{to_right, value, white, residual}
use Rattle.rules.specs.Rule.{Rule, dither}
use Rattle.dither.specs.Internal.Carry.{Carry, clamp, left_of, corner_of, over_of, value_of, diffused, machine_dot, next}
use Rattle.rules.specs.Internal.Held.{Biased, DotMade}
use Rattle.dither.specs.Internal.Kernels.{Near, row_carry, row_bit, carry_of, Dots}
use Rattle.dither.proofs.HeldRange.{within, clamp-same}
use Rattle.dither.proofs.CarryRead.{left_at, corner-at, over-set, kept-zero}
use Rattle.rules.proofs.Differences.{stepped-residual-free}
use Rattle.rules.proofs.DigitsAppended.{bit_le, one_more, appended-lt}

pub biased-zero : Biased (pos 0) 128
biased-zero = record { is = refl; small = omega arith }

pub biased-clamp : (z : ℤ) (r : ℕ) → Biased z r → Biased (clamp z) r
biased-clamp z r b = rw (clamp-same z (within z (record { n = r; holds = b }))) b

-- the residual above the dot on the left where a row goes on, and at its start
pub corner-on : (corner x r : ℕ) → corner ≤ 256 → 0 < x → r ≡ corner → Biased (corner_of (sub_ℕ corner 128) x) r
corner-on corner x r h k e = rw (corner-at (sub_ℕ corner 128) x k, e) (record { is = refl; small = h })

pub dot-le : {v : ℤ} {dot rest : ℕ} → DotMade v dot rest → dot ≤ 1
dot-le {v} s = subst (λ (n : ℕ). n ≤ 1) (sym s.dot_is) (bit_le (white v))

pub row-bit-le : (rule : Rule) (w y x : ℕ) (gray : List ℕ) (c : Carry) (i : ℕ) → row_bit rule w y x gray c i ≤ 1
unfolding row_bit
row-bit-le rule w y x gray c i = bit_le (machine_dot rule w y (x + i) (get_or gray i 0) (row_carry rule w y x gray c i))

-- the digits after n samples more
pub dots-small : (rule : Rule) (w y x : ℕ) (gray : List ℕ) (begun corner : ℕ) (work : List ℤ) (digits corner' : ℕ) (work' : List ℤ)
    (a n : ℕ)
    → Dots rule w y x gray begun corner work digits corner' work' → begun < 2 ^ a → length gray ≡ n → digits < 2 ^ (a + n)
dots-small rule w y x gray begun corner work digits corner' work' a n d h e =
    rw (d.digits, e) (appended-lt begun (row_bit rule w y x gray (carry_of corner work)) (row-bit-le rule w y x gray (carry_of corner work))
    a n h)

module _ (w y x : ℕ) (gray : List ℕ) (begun corner : ℕ) (work₀ : List ℤ) where
  abbrev at : ℕ → Carry
  at i = row_carry dither w y x gray (carry_of corner work₀) i

  -- after i samples
  pub record Inv (work : List ℤ) (left digits above_left above i : ℕ) : Type 0 where
    pub bound : i ≤ length gray
    pub long : length work ≡ length work₀
    pub kept_is : (at i).kept ≡ work
    pub left_is : Biased (left_of work (x + i)) left
    pub corner_is : Biased (corner_of (at i).corner (x + i)) above_left
    pub above_is : Biased (over_of w y work (x + i)) above
    pub digits_is : digits ≡ appended begun (row_bit dither w y x gray (carry_of corner work₀)) i

  pub inv-start : (left above_left above : ℕ) → Biased (left_of work₀ x) left → Biased (corner_of (sub_ℕ corner 128) x) above_left
      → Biased (over_of w y work₀ x) above
      → Inv work₀ left begun above_left above 0
  unfolding row_carry appended
  inv-start left above_left above hl hc ha =
      record {
        bound = omega arith;
        long = refl;
        kept_is = refl;
        left_is = rw add-zero hl;
        corner_is = rw add-zero hc;
        above_is = rw add-zero ha;
        digits_is = refl;
      }

  module _ (work : List ℤ) (left digits above_left above i : ℕ) (I : Inv work left digits above_left above i)
      (ahead dot rest : ℕ) (hr : Biased (over_of w y work (x + i + 1)) ahead)
      (st : DotMade (value (get_or gray i 0) (sub_ℕ left 128) (sub_ℕ above_left 128) (sub_ℕ above 128) (sub_ℕ ahead 128)) dot rest) where
    value-is : value_of to_right w y (x + i) (get_or gray i 0) (at i)
        ≡ value (get_or gray i 0) (sub_ℕ left 128) (sub_ℕ above_left 128) (sub_ℕ above 128) (sub_ℕ ahead 128)
    unfolding value_of
    value-is = rw (I.kept_is, I.left_is.is, I.corner_is.is, I.above_is.is, hr.is)

    dot-is : dot ≡ row_bit dither w y x gray (carry_of corner work₀) i
    unfolding row_bit machine_dot
    dot-is = st.dot_is ∙ ap (λ (v : ℤ). bit (white v)) (sym value-is)

    pub inv-more : (z : ℤ) → z ≡ sub_ℕ rest 128 → i < length gray → x + i < length work
        → Inv (set work (x + i) z) rest (digits * 2 + dot) above ahead (i + 1)
    unfolding row_carry next diffused
    inv-more z ez h k =
        let zr : residual (value_of to_right w y (x + i) (get_or gray i 0) (at i)) ≡ z = ap residual value-is ∙ st.rest_is.is ∙ sym ez in
        let e : x + (i + 1) ≡ x + i + 1 = omega arith in
        let b : Biased z rest = record { is = ez; small = st.rest_is.small } in
        record {
          bound = omega arith;
          long = length-set work (x + i) z ∙ I.long;
          kept_is = rw (add-one i, zr, I.kept_is);
          left_is =
              rw (left_at (set work (x + i) z) (x + (i + 1)) (x + i) e, get_or-set_same work (x + i) z (pos 0) k) (biased-clamp z rest b);
          corner_is = rw (add-one i, corner-at (over_of w y (at i).kept (x + i)) (x + suc i) (omega arith), I.kept_is) I.above_is;
          above_is = rw (e, over-set w work y (x + i) (x + i + 1) z (λ (o : x + i + 1 ≡ x + i). omega arith)) hr;
          digits_is = one_more begun (row_bit dither w y x gray (carry_of corner work₀)) i digits dot I.digits_is dot-is;
        }

  -- a turn that alters nothing
  pub inv-residual-free : (work : List ℤ) (digits i : ℕ) → Inv work 128 digits 128 128 i → Biased (over_of w y work (x + i + 1)) 128
      → 0 < y → x + i < w → w ≤ length work → i < length gray → get_or gray i 0 < 256 → get_or gray i 0 % 255 ≡ 0
      → Inv work 128 (digits * 2 + get_or gray i 0 / 128) 128 128 (i + 1)
  inv-residual-free work digits i I hr h k l m b e =
      subst (λ (kept : List ℤ). Inv kept 128 (digits * 2 + get_or gray i 0 / 128) 128 128 (i + 1))
      (kept-zero w work y (x + i) h k I.above_is.is)
      (inv-more work 128 digits 128 128 i I 128 (get_or gray i 0 / 128) 128 hr (stepped-residual-free (get_or gray i 0) b e) (pos 0) refl m
      (omega arith))

  -- the residuals next to the dot after the last one
  pub inv-near : (work : List ℤ) (left digits above_left above i : ℕ) → Inv work left digits above_left above i → length gray ≤ i
      → 0 < length gray
      → Near w y (x + length gray) above_left work (record { left = left; corner = above_left; above = above })
  inv-near work left digits above_left above i I h k =
      let b = I.bound in
      let e : i ≡ length gray = omega arith in
      record {
        left_is = subst (λ (n : ℕ). Biased (left_of work (x + n)) left) e I.left_is;
        corner_is = corner-on above_left (x + length gray) above_left I.corner_is.small (omega arith) refl;
        above_is = subst (λ (n : ℕ). Biased (over_of w y work (x + n)) above) e I.above_is;
      }

  pub inv-end : (work : List ℤ) (left digits above_left above i : ℕ) → Inv work left digits above_left above i → length gray ≤ i
      → 0 < length gray
      → Dots dither w y x gray begun corner work₀ digits above_left work
  inv-end work left digits above_left above i I h k =
      let b = I.bound in
      let e : i ≡ length gray = omega arith in
      let p : (at i).corner ≡ sub_ℕ above_left 128 = sym (corner-at (at i).corner (x + i) (omega arith)) ∙ I.corner_is.is in
      record {
        digits = I.digits_is ∙ ap (appended begun (row_bit dither w y x gray (carry_of corner work₀))) e;
        carry = ap at (sym e) ∙ (λ j. record { corner = p j; kept = I.kept_is j });
        small = I.corner_is.small;
      }
