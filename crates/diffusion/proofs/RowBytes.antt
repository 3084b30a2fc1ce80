-- A row's bytes, one after the other, and its last one.
-- Assumes nothing.
use Prim.Native.Nat.{ℕ, ◌+◌, ◌-◌, ◌*◌, ◌^◌, ◌≤◌, ◌<◌}
use mathlib.Core.Path.{◌≡◌, refl, sym, ap, ◌∙◌, subst}
use mathlib.Core.List.{List}
use native.Mathlib.Nat.{zero-mul, div-eq_of_lt, mod-eq_of_lt}
use native.Mathlib.Omega.{arith}
use lib.IntN.{ℤ}
use lib.ListN.{length, set, length-set}
use borrow.Author.Tests.{lt-ltb, le-ltb}
use Rattle.image.specs.Geometry.{row_bytes}
use Rattle.rules.specs.Bits.{upto, appended, digits}
use Rattle.rules.specs.Packed.{padded_bit, byte_at}
use Rattle.rules.proofs.DigitsAppended.{appended-ext, digits-tail}
use Rattle.rules.proofs.UptoList.{take_more}
use Rattle.diffusion.specs.declared.row.Flow.{Flow}
use Rattle.diffusion.specs.Internal.Sums.{handed_right, rest_before, sums_of}
use Rattle.diffusion.specs.Internal.Rows.{gray_of, dot_by, RowLent}
use Rattle.diffusion.specs.Internal.Flow.{owed, RowAt, DotsLent, DotsPassed, BytesPassed}
use Rattle.diffusion.proofs.RowGrows.{digits-small}
use Rattle.diffusion.proofs.SumsCorrect.{part-of-128}

-- ---- the bytes of one row

module _ (w : ℕ) (d : ℕ → ℕ) (j : ℕ) where
  dot-in : (c : ℕ) → c < w → padded_bit w d 0 c ≡ d c
  unfolding padded_bit
  dot-in c h = rw (lt-ltb c w h) (ap d (let e = zero-mul w in omega arith))

  dot-past : (c : ℕ) → w ≤ c → padded_bit w d 0 c ≡ 0
  unfolding padded_bit
  dot-past c h = rw (le-ltb c w h)

  in-first : j < row_bytes w → byte_at w d j ≡ digits (λ i. padded_bit w d 0 (8 * j + i)) 8
  unfolding byte_at
  in-first h = rw (div-eq_of_lt h, mod-eq_of_lt h)

  dots-in : (m : ℕ) → 8 * j + m ≤ w → digits (λ i. padded_bit w d 0 (8 * j + i)) m ≡ appended 0 (λ i. d (8 * j + i)) m
  dots-in m h = appended-ext 0 (λ i. padded_bit w d 0 (8 * j + i)) (λ i. d (8 * j + i)) m (λ i l. dot-in (8 * j + i) (omega arith))

  -- eight dots
  pub byte-whole : 8 * j + 8 ≤ w → byte_at w d j ≡ appended 0 (λ i. d (8 * j + i)) 8
  byte-whole h = in-first (omega arith) ∙ dots-in 8 h

  -- the row's last dots, and zeros
  pub byte-end : 8 * j < w → w ≤ 8 * j + 8 → byte_at w d j ≡ appended 0 (λ i. d (8 * j + i)) (w - 8 * j) * 2 ^ (8 - (w - 8 * j))
  byte-end h k =
      let m = w - 8 * j in
      let e : m + (8 - m) ≡ 8 = omega arith in
      in-first (omega arith)
      ∙ ap (digits (λ i. padded_bit w d 0 (8 * j + i))) (sym e)
      ∙ digits-tail (λ i. padded_bit w d 0 (8 * j + i)) m (8 - m) (λ i l. dot-past (8 * j + i) (omega arith))
      ∙ ap (λ (n : ℕ). n * 2 ^ (8 - m)) (dots-in m (omega arith))

-- ---- from the row's start on

abbrev pub first_flow : Flow
first_flow = record { right = 56; down = 524288; stirred = 0; digits = 0 }

module _ (gray : List ℕ) (old : List ℤ) (room : ℕ) (lent : RowLent gray old room) (byte : (k : ℕ) → gray_of gray k < 256) where
  pub row-start : RowAt gray old 0 first_flow old
  unfolding handed_right owed rest_before
  row-start =
      let p = part-of-128 1 in
      record {
        bytes = byte;
        given = lent.sums;
        in_row = omega arith;
        long = refl;
        right_is = refl;
        down_is = omega arith;
        handed = λ k h. let z : ⊥ = omega arith in absurd z;
        ahead = λ k h. refl;
        still = λ e k h. let z : ⊥ = omega arith in absurd z;
      }

  pub bytes-start : (n : ℕ) (out : List ℕ) → n ≡ 0 → length out ≡ room → BytesPassed gray old n room first_flow out old
  unfolding upto
  bytes-start n out e l = rw e (record { at = row-start; out_long = l; written = refl })

module _ (gray : List ℕ) (old : List ℤ) (n room : ℕ) (f : Flow) (out : List ℕ) (work : List ℤ)
    (p : BytesPassed gray old n room f out work) where
  -- the next byte's dots are lent
  pub byte-lent : length gray ≤ length old → 8 * n + 8 ≤ length gray → DotsLent gray (8 * n) (8 * n + 8) f work
  byte-lent h k =
      record { old = old; at = p.at; kept = omega (arith, p.at.long); order = omega arith; one_byte = omega arith; in_row = k }

  module _ (r : Flow) (work' : List ℤ) (d : DotsPassed gray old (8 * n) (8 * n + 8) r work') where
    eight : 8 * n + 8 - 8 * n ≡ 8
    eight = omega arith

    pub digits-byte : r.digits < 256
    digits-byte =
        subst (λ (m : ℕ). r.digits < 2 ^ m) eight
        (digits-small gray old (8 * n + 8) r work' d.at (8 * n) (omega arith) (omega arith) d.digits_is)

    -- one byte more
    pub bytes-more : 8 * n + 8 ≤ length gray → n < room → BytesPassed gray old (n + 1) room r (set out n r.digits) work'
    bytes-more h k =
        let e : 8 * n + 8 ≡ 8 * (n + 1) = omega arith in
        let f = dot_by gray (sums_of old) in
        record {
          at = subst (λ (x : ℕ). RowAt gray old x r work') e d.at;
          out_long = length-set out n r.digits ∙ p.out_long;
          written = take_more out n r.digits (byte_at (length gray) f) (omega (arith, p.out_long)) p.written
              (d.digits_is ∙ ap (appended 0 (λ i. f (8 * n + i))) eight ∙ sym (byte-whole (length gray) f n h));
        }

-- bytes after others
pub record BytesRun (gray : List ℕ) (last n₀ : ℕ) (f₀ : Flow) (out₀ : List ℕ) (work₀ : List ℤ)
    (n : ℕ) (f : Flow) (out : List ℕ) (work : List ℤ) : Type 0 where
  pub from : n₀ ≤ n
  pub to : n ≤ last
  pub passed : (old : List ℤ) (room : ℕ) → BytesPassed gray old n₀ room f₀ out₀ work₀ → BytesPassed gray old n room f out work
