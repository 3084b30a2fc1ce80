-- A row of black and white samples as its bytes are written.
-- Assumes nothing.
use Prim.Native.Nat.{ℕ, ◌+◌, ◌-◌, ◌*◌, ◌/◌, ◌%◌, ◌≤◌, ◌<◌}
use mathlib.Core.Path.{◌≡◌, sym, ap, ◌∙◌}
use mathlib.Core.Bool.{Bool, true, false, ◌&&◌}
use mathlib.Core.Logic.{⊎_elim}
use mathlib.Core.List.{List, ◌++◌}
use native.Mathlib.Nat.{zero-add, one-mul}
use native.Mathlib.Omega.{arith}
use lib.Bits.{bit_and}
use borrow.Author.Tests.{eqb-true, eq-eqb, ne_eqb, le-leb, lt-leb, lt-ltb, le-ltb}
use lib.Dec.{eqb, leb}
use lib.ListN.{length, get_or, drop, set}
use Rattle.laws.proofs.Tests.{lt-or-le, if-true, if-false, if-elim, and-false}
use Rattle.image.specs.Geometry.{row_bytes}
use Rattle.rules.specs.Bits.{upto, bit}
use Rattle.rules.specs.Packed.{padded_bit, byte_at}
use Rattle.rules.specs.Internal.Kernels.{threshold_bit}
use Rattle.rules.specs.Internal.Planes.{plane, row_sample, plain_bytes, PlainRow}
use Rattle.rules.specs.Internal.Row.{Plain, plain_front}
use Rattle.rules.specs.Internal.Words.{bytes, Below, TellsPlain, Gathers}
use Rattle.rules.proofs.DigitsAppended.{bit_le, appended-ext}
use Rattle.rules.proofs.EntryTold.{never}
use Rattle.rules.proofs.PlainFront.{front-le, front-plain, front-least}
use Rattle.rules.proofs.PlaneBytes.{bit_in, bit_past, byte-at}
use Rattle.rules.proofs.UptoOverlaid.{overlaid, overlaid-none, overlaid-next}
use Rattle.rules.proofs.WordCompared.{tops, half-dots}

-- a row's sample, and what stands behind its last
module _ (w : ℕ) (gray : List ℕ) where
  pub sample_in : (c : ℕ) → c < w → row_sample w gray c ≡ get_or gray c 0
  sample_in c h = rw (lt-ltb c w h)

  pub sample-past : (c : ℕ) → w ≤ c → row_sample w gray c ≡ 0
  sample-past c h = rw (le-ltb c w h)

-- the first k bytes of a row of w samples are written, and their samples are black and white alone
pub record PlainTo (w : ℕ) (gray out₀ out : List ℕ) (k : ℕ) : Type 0 where
  pub within : k ≤ row_bytes w
  pub plain : (i : ℕ) → i < 8 * k → row_sample w gray i % 255 ≡ 0
  pub out_is : out ≡ overlaid k (byte_at w (threshold_bit 128 gray)) out₀

-- the row's bytes from k on are as they were, and r says whether there is none
ended : {w : ℕ} {gray out₀ out : List ℕ} (r : Bool) (k : ℕ) → plain_bytes w gray (length out₀) ≡ k → r ≡ eqb k (row_bytes w)
    → out ≡ overlaid k (byte_at w (threshold_bit 128 gray)) out₀ → PlainRow w gray out₀ r out
ended {w} {gray} {out₀} {out} r k n t o =
    record {
      told = t ∙ ap (λ (j : ℕ). eqb j (row_bytes w)) (sym n);
      written = o ∙ ap (λ (j : ℕ). overlaid j (byte_at w (threshold_bit 128 gray)) out₀) (sym n);
    }

module _ (w : ℕ) (gray out₀ : List ℕ) where
  pub plain-none : PlainTo w gray out₀ out₀ 0
  plain-none =
      record {
        within = omega arith;
        plain = λ i l. let z : ⊥ = omega arith in absurd z;
        out_is = overlaid-none (byte_at w (threshold_bit 128 gray)) out₀;
      }

  missing : (w ≤ length gray → row_bytes w ≤ length out₀ → ⊥) → (leb w (length gray) && leb (row_bytes w) (length out₀)) ≡ false
  missing n =
      ⊎_elim
      (λ (l : length gray < w). rw (lt-leb w (length gray) l))
      (λ (l : w ≤ length gray).
      ⊎_elim
      (λ (k : length out₀ < row_bytes w). rw (lt-leb (row_bytes w) (length out₀) k) (and-false (leb w (length gray))))
      (λ (k : row_bytes w ≤ length out₀). absurd (n l k))
      (lt-or-le (length out₀) (row_bytes w)))
      (lt-or-le (length gray) w)

  pub row-missing : (w ≤ length gray → row_bytes w ≤ length out₀ → ⊥) → PlainRow w gray out₀ false out₀
  row-missing n =
      ended false 0 (if-false _ _ _ (missing n))
      (sym (ne_eqb 0 (row_bytes w) (λ e. n (omega arith) (omega arith))))
      (overlaid-none (byte_at w (threshold_bit 128 gray)) out₀)

module _ {w : ℕ} {gray out₀ : List ℕ} (room : row_bytes w ≤ length out₀) {out : List ℕ} {k : ℕ} (p : PlainTo w gray out₀ out k) where
  abbrev d : ℕ → ℕ
  d = threshold_bit 128 gray

  -- so many of the row's samples are black or white, from the first on
  abbrev front : ℕ
  front = plain_front (row_sample w gray) (8 * row_bytes w)

  front-from : 8 * k ≤ front
  front-from = let l = p.within in front-least (row_sample w gray) (8 * row_bytes w) (8 * k) (omega arith) p.plain

  counted : w ≤ length gray → plain_bytes w gray (length out₀) ≡ front / 8
  counted l =
      let fits : (leb w (length gray) && leb (row_bytes w) (length out₀)) ≡ true =
      rw (le-leb w (length gray) l, le-leb (row_bytes w) (length out₀) room) in
      if-true _ (front / 8) 0 fits

  pub row_done : w ≤ length gray → row_bytes w ≤ k → PlainRow w gray out₀ true out
  row_done l h =
      let a = p.within in
      let n : front / 8 ≡ k = omega (arith, front-from, front-le (row_sample w gray) (8 * row_bytes w)) in
      ended true k (counted l ∙ n) (sym (eq-eqb k (row_bytes w) (omega arith))) p.out_is

  -- byte k, from a word that holds its samples
  module _ (x : ℕ) (f : ℕ → ℕ) (small : Below 256 f) (e : x ≡ bytes f 8)
      (here : (i : ℕ) → i < 8 → f i ≡ row_sample w gray (8 * k + i)) where
    module _ (r : Bool) (tells : TellsPlain x r) where
      pub row-stopped : r ≡ false → w ≤ length gray → k < row_bytes w → PlainRow w gray out₀ false out
      row-stopped q l m =
          ⊎_elim
          (λ (b : front < 8 * k + 8).
          let n : front / 8 ≡ k = omega (arith, front-from) in
          ended false k (counted l ∙ n) (sym (ne_eqb k (row_bytes w) (λ z. omega arith))) p.out_is)
          (λ (b : 8 * k + 8 ≤ front).
          never (sym q ∙ (tells f small e).1
          (λ i j. ap (λ (n : ℕ). n % 255) (here i j) ∙ front-plain (row_sample w gray) (8 * row_bytes w) (8 * k + i) (omega arith))))
          (lt-or-le front (8 * k + 8))

      module _ (q : r ≡ true) where
        plains : (i : ℕ) → i < 8 → f i % 255 ≡ 0
        plains = (tells f small e).0 q

        dot-same : (i : ℕ) → i < 8 → bit (leb 128 (f i)) ≡ padded_bit w d 0 (8 * k + i)
        dot-same i l =
            let z : 8 * k + i ≡ 0 * w + (8 * k + i) = omega arith in
            ⊎_elim
            (λ (m : 8 * k + i < w).
            ap (λ (n : ℕ). bit (leb 128 n)) (here i l ∙ sample_in w gray (8 * k + i) m)
            ∙ ap d z
            ∙ sym (bit_in w d 0 (8 * k + i) m))
            (λ (m : w ≤ 8 * k + i).
            ap (λ (n : ℕ). bit (leb 128 n)) (here i l ∙ sample-past w gray (8 * k + i) m) ∙ sym (bit_past w d 0 (8 * k + i) m))
            (lt-or-le (8 * k + i) w)

        byte-is : (v : ℕ) → Gathers (bit_and x tops) v → k < row_bytes w → v ≡ byte_at w d k
        byte-is v g l =
            let z : 0 * row_bytes w + k ≡ k = omega arith in
            g (λ i. bit (leb 128 (f i))) (λ i. let a = bit_le (leb 128 (f i)) in omega arith)
            (ap (λ (n : ℕ). bit_and n tops) e ∙ half-dots f small)
            ∙ appended-ext 0 (λ i. bit (leb 128 (f i))) (λ i. padded_bit w d 0 (8 * k + i)) 8 dot-same
            ∙ sym (byte-at w d 0 k l)
            ∙ ap (byte_at w d) z

        sample-plain : (i : ℕ) → 8 * k ≤ i → i < 8 * (k + 1) → row_sample w gray i % 255 ≡ 0
        sample-plain i a b =
            let j : 8 * k + (i - 8 * k) ≡ i = omega arith in
            ap (λ (n : ℕ). row_sample w gray n % 255) (sym j)
            ∙ ap (λ (n : ℕ). n % 255) (sym (here (i - 8 * k) (omega arith)))
            ∙ plains (i - 8 * k) (omega arith)

        pub row-goes-on : (v : ℕ) → Gathers (bit_and x tops) v → k < row_bytes w → PlainTo w gray out₀ (set out k v) (k + 1)
        row-goes-on v g l =
            record {
              within = omega arith;
              plain = λ i n. ⊎_elim (λ (a : i < 8 * k). p.plain i a) (λ (a : 8 * k ≤ i). sample-plain i a n) (lt-or-le i (8 * k));
              out_is = ap (λ (o : List ℕ). set o k v) p.out_is ∙ overlaid-next (byte_at w d) out₀ k v (omega arith) (byte-is v g l);
            }

-- ---- where the answer is yes

module _ {w : ℕ} {gray out out' : List ℕ} {r : Bool} (p : PlainRow w gray out r out') (e : r ≡ true) where
  whole : plain_bytes w gray (length out) ≡ row_bytes w
  whole = eqb-true _ _ (sym p.told ∙ e)

  pub row_plain : Plain gray 0 w
  row_plain i l =
      if-elim (λ (n : ℕ). n ≡ row_bytes w → get_or gray (0 + i) 0 % 255 ≡ 0) (leb w (length gray) && leb (row_bytes w) (length out))
      (plain_front (row_sample w gray) (8 * row_bytes w) / 8) 0
      (λ _ n.
      ap (λ (j : ℕ). get_or gray j 0 % 255) (zero-add i)
      ∙ ap (λ (g : ℕ). g % 255) (sym (sample_in w gray i l))
      ∙ front-plain (row_sample w gray) (8 * row_bytes w) i (omega arith))
      (λ _ n. let z : ⊥ = omega arith in absurd z)
      whole

  pub row_written : out' ≡ plane w 1 (threshold_bit 128 gray) ++ drop (row_bytes w) out
  row_written =
      p.written
      ∙ ap (λ (n : ℕ). overlaid n (byte_at w (threshold_bit 128 gray)) out) whole
      ∙ ap (λ (n : ℕ). upto n (byte_at w (threshold_bit 128 gray)) ++ drop (row_bytes w) out) (sym (one-mul (row_bytes w)))
