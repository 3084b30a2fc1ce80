-- A row's end: its last byte, the sum for its last column, and what it hands down in all.
-- Assumes nothing.
use Prim.Native.Nat.{ℕ, zero, suc, ◌+◌, ◌-◌, ◌*◌, ◌/◌, ◌%◌, ◌^◌, ◌≤◌, ◌<◌}
use mathlib.Core.Path.{◌≡◌, sym, ap, ◌∙◌}
use mathlib.Core.Bool.{Bool, true}
use mathlib.Core.List.{List}
use mathlib.Core.Logic.{⊎_elim}
use native.Mathlib.Nat.{mod-eq_of_lt}
use native.Mathlib.Omega.{arith}
use lib.IntN.{ℤ, pos}
use lib.ListN.{length, get_or, drop, set, length-set, length-drop}
use lib.Seq.{take_all, drop-set-lt, get_or-drop, ext_get_or, get_or-set_same, get_or-set_other}
use borrow.Author.Tests.{lt-ltb, le-ltb}
use Rattle.image.specs.Geometry.{row_bytes}
use Rattle.rules.specs.Bits.{upto}
use Rattle.rules.specs.Packed.{byte_at}
use Rattle.laws.proofs.Tests.{lt-or-le}
use Rattle.rules.proofs.DigitsAppended.{shifted-lt}
use Rattle.rules.proofs.UptoList.{take_more}
use Rattle.diffusion.specs.declared.row.Flow.{Flow}
use Rattle.diffusion.specs.Internal.Sums.{part_of, rest_by, rest_before, rest_after, handed_down, sums_of, Level}
use Rattle.diffusion.specs.Internal.Rows.{gray_of, dot_by, row_of, RowLent, RowDithered}
use Rattle.diffusion.specs.Internal.Flow.{owed, Still, DotsPassed, BytesPassed}
use Rattle.diffusion.proofs.RowBytes.{byte-end}
use Rattle.diffusion.proofs.RowGrows.{digits-small, owed-le}
use Rattle.diffusion.proofs.SumsCorrect.{part-of-128}

-- what is owed behind the last column is the sum for it, without the part that falls off
end-owed : (w : ℕ) (g s : ℕ → ℕ) (k : ℕ) → k + 1 ≡ w → owed g s w + 24 ≡ handed_down w g s k
unfolding owed handed_down rest_after
end-owed zero g s k e = let z : ⊥ = omega arith in absurd z
end-owed (suc y) g s k e =
    let o : k ≡ y = omega arith in
    let p = part-of-128 3 in
    rw (o, le-ltb (suc y) (suc y) (omega arith)) (omega arith)

-- dots that hand on nothing
module _ (w : ℕ) (g s : ℕ → ℕ) (still : (k : ℕ) → k < w → Still (rest_by g s k)) where
  before-still : (k : ℕ) → k < w → part_of 1 (rest_before g s k) ≡ 8
  unfolding rest_before
  before-still zero l = part-of-128 1
  before-still (suc k) l = (still k (omega arith)).one

  after-still : (k : ℕ) → part_of 3 (rest_after w g s k) ≡ 24
  unfolding rest_after
  after-still k =
      ⊎_elim
      (λ l. rw (lt-ltb (suc k) w l) (still (suc k) l).three)
      (λ l. rw (le-ltb (suc k) w l) (part-of-128 3))
      (lt-or-le (suc k) w)

  level-of : Level w (handed_down w g s)
  unfolding handed_down
  level-of x h = omega (arith, (still x h).five, before-still x h, after-still x)

module _ (gray : List ℕ) (old : List ℤ) (room : ℕ) (lent : RowLent gray old room) (f : Flow) (out : List ℕ) (work : List ℤ)
    (p : BytesPassed gray old ((length gray - 1) / 8) room f out work) where
  abbrev w : ℕ
  w = length gray

  abbrev last : ℕ
  last = (length gray - 1) / 8

  module _ (r : Flow) (work' : List ℤ) (d : DotsPassed gray old (8 * last) (length gray) r work') where
    last-small : r.digits < 2 ^ (w - 8 * last)
    last-small = digits-small gray old w r work' d.at (8 * last) (omega arith) (omega arith) d.digits_is

    -- the byte, in eight bits and in 32
    pub shifted-small : r.digits * 2 ^ (8 - (length gray - 8 * last)) < 256
    shifted-small = shifted-lt r.digits (w - 8 * last) (omega arith) last-small

    pub shifted-is : r.digits * 2 ^ (8 - (length gray - 8 * last)) % 4294967296 ≡ r.digits * 2 ^ (8 - (length gray - 8 * last))
    shifted-is = let l = shifted-small in mod-eq_of_lt (omega arith)

    module _ (b : ℕ) (z : ℤ) (eb : b ≡ r.digits * 2 ^ (8 - (length gray - 8 * last))) (ez : z ≡ pos (r.down / 256 % 256 + 24)) where
      room-is : room ≡ last + 1
      room-is = let s = lent.some in omega (arith, lent.room)

      bytes-are : set out last b ≡ row_of w (dot_by gray (sums_of old))
      bytes-are =
          let s = lent.some in
          let e : last + 1 ≡ row_bytes w = omega arith in
          let q = room-is in
          sym (take_all (last + 1) (set out last b) (omega (arith, length-set out last b, p.out_long)))
          ∙ take_more out last b (byte_at w (dot_by gray (sums_of old))) (omega (arith, p.out_long)) p.written
          (eb ∙ ap (λ (n : ℕ). n * 2 ^ (8 - (w - 8 * last))) d.digits_is
          ∙ sym (byte-end w (dot_by gray (sums_of old)) last (omega arith) (omega arith)))
          ∙ ap (λ (n : ℕ). upto n (byte_at w (dot_by gray (sums_of old)))) e

      end_is : (k : ℕ) → k + 1 ≡ w → z ≡ pos (handed_down w (gray_of gray) (sums_of old) k)
      end_is k e =
          let o = owed-le gray old w r work' d.at w (omega arith) in
          let n : r.down / 256 % 256 ≡ owed (gray_of gray) (sums_of old) w = omega (arith, d.at.down_is) in
          ez ∙ ap (λ (m : ℕ). pos (m + 24)) n ∙ ap pos (end-owed w (gray_of gray) (sums_of old) k e)

      pub row-dithered : (t : Bool) → (t ≡ true → r.stirred ≡ 0) → RowDithered gray old t (set out last b) (set work' (length gray - 1) z)
      row-dithered t h =
          let some = lent.some in
          let long = d.at.long in
          let kept = lent.kept in
          record {
            bytes = bytes-are;
            sums = λ x l. ⊎_elim
                (λ (m : x + 1 < w). get_or-set_other work' (w - 1) x z (pos 0) (λ e. omega arith) ∙ d.at.handed x m)
                (λ (m : w ≤ x + 1).
                let e : x ≡ w - 1 = omega arith in
                ap (λ (k : ℕ). get_or (set work' (w - 1) z) k (pos 0)) e
                ∙ get_or-set_same work' (w - 1) z (pos 0) (omega arith) ∙ end_is x (omega arith))
                (lt-or-le (x + 1) w);
            beyond = drop-set-lt w work' (w - 1) z (omega arith)
                ∙ ext_get_or (pos 0) (drop w work') (drop w old) (length-drop w work' ∙ ap (λ (n : ℕ). n - w) long ∙ sym (length-drop w old))
                (λ i l. get_or-drop w work' i (pos 0) ∙ d.at.ahead (w + i) (omega arith) ∙ sym (get_or-drop w old i (pos 0)));
            level = λ e. level-of w (gray_of gray) (sums_of old) (d.at.still (h e));
          }
