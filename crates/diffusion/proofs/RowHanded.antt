-- What is handed to a row, and what it hands down.
-- Assumes nothing.
use Prim.Native.Nat.{ℕ, ◌/◌, ◌%◌, ◌<◌}
use mathlib.Core.Path.{◌≡◌, refl, sym, ap, ◌∙◌, subst}
use mathlib.Core.Bool.{Bool, true, false}
use mathlib.Core.List.{List, ◌++◌}
use native.Mathlib.Nat.{zero-add}
use native.Mathlib.Omega.{arith}
use lib.IntN.{ℤ, pos, nat_abs}
use lib.ListN.{length, get_or, drop, get_or-append}
use lib.Seq.{drop_at}
use Rattle.laws.proofs.Tests.{zero_one}
use Rattle.image.specs.Geometry.{row_bytes}
use Rattle.rules.specs.Internal.Kernels.{threshold_bit}
use Rattle.rules.specs.Internal.Planes.{PlainRow}
use Rattle.rules.specs.Internal.Row.{Plain}
use Rattle.rules.proofs.PlainRowWritten.{row_plain, row_written}
use Rattle.diffusion.specs.Internal.Sums.{none, handed_down, sums_of, Sums, Level}
use Rattle.diffusion.specs.Internal.Rows.{gray_of, dot_by, row_of, RowDithered}
use Rattle.diffusion.specs.Internal.RowByRow.{handed_to, AllNone, RowBegun, RowNext}
use Rattle.diffusion.proofs.PlaneRows.{row_same, row-alone}
use Rattle.diffusion.proofs.SumsCorrect.{down-small, value_same, down-same, level-dot, level-down}

-- a number that is held is its own sum
held : (work : List ℤ) (x n : ℕ) → get_or work x (pos 0) ≡ pos n → sums_of work x ≡ n
held work x n e = ap nat_abs e

module _ (gray : List ℕ) (work : List ℤ) (out' : List ℕ) where
  abbrev w : ℕ
  w = length gray

  -- ---- where the row begins

  pub begun-plain : (level r : Bool) (out : List ℕ) → level ≡ true → r ≡ true → length out ≡ row_bytes (length gray)
      → PlainRow (length gray) gray out r out' → RowBegun level gray work true out' work
  begun-plain level r out d t n p =
      record {
        beyond = refl;
        even = λ e. d;
        plain = λ e. row_plain p t;
        written = λ e. row-alone w (threshold_bit 128 gray) out out' n (row_written p t);
        sums = λ e. zero_one (cc);
        same = λ e. zero_one (cc);
      }

  module _ (sums : List ℤ) (n : length sums ≡ length gray) (a : AllNone sums) where
    number : (x : ℕ) → x < length gray → get_or (sums ++ drop (length gray) work) x (pos 0) ≡ pos none
    number x l = get_or-append sums (drop w work) (pos 0) x (omega arith) ∙ a x (omega arith)

    none-at : (x : ℕ) → x < length gray → sums_of (sums ++ drop (length gray) work) x ≡ none
    none-at x l = held (sums ++ drop w work) x none (number x l)

    pub begun-level : (level : Bool) → level ≡ true → RowBegun level gray work false out' (sums ++ drop (length gray) work)
    begun-level false d = zero_one (cc)
    begun-level true d =
        record {
          beyond = drop_at sums (drop w work) w n;
          even = λ e. zero_one (cc);
          plain = λ e. zero_one (cc);
          written = λ e. zero_one (cc);
          sums = λ e. record { is = λ x l. number x l ∙ ap pos (sym (none-at x l)); small = λ x l. rw (none-at x l) (omega arith) };
          same = λ e x l. none-at x l;
        }

  -- ---- where it is done

  module _ (bytes : (i : ℕ) → get_or gray i 0 < 256) where
    -- a row of black and white to which nothing is handed
    pub next-plain : (work' : List ℤ) → Plain gray 0 (length gray) → out' ≡ row_of (length gray) (threshold_bit 128 gray)
        → drop (length gray) work' ≡ drop (length gray) work → RowNext true gray work true out' work'
    next-plain work' p e b =
        let level : Level w (handed_to true work) = λ x l. refl in
        let shades : (i : ℕ) → i < length gray → (gray_of gray i < 256) × (gray_of gray i % 255 ≡ 0) =
        λ i l. (bytes i, rw zero-add at (p i l)) in
        record {
          bytes =
              e
              ∙ row_same w (threshold_bit 128 gray) (dot_by gray (handed_to true work))
              (λ x l. sym (level-dot w (gray_of gray) (handed_to true work) level shades x l));
          down = λ x l. sym (level-down w (gray_of gray) (handed_to true work) level shades x l);
          sums = λ z. zero_one (cc);
          beyond = b;
        }

    pub next-begun : (level r : Bool) (work' : List ℤ) → r ≡ true → RowBegun level gray work r out' work'
        → RowNext level gray work true out' work'
    next-begun level r work' t g =
        subst (λ (b : Bool). RowNext b gray work true out' work') (sym (g.even t))
        (next-plain work' (g.plain t) (g.written t) g.beyond)

    -- any other one, from the sums in the work buffer
    module _ (level : Bool) (mid : List ℤ) (r : Bool) (work' : List ℤ) (given : Sums (length gray) mid)
        (same : (x : ℕ) → x < length gray → sums_of mid x ≡ handed_to level work x) (d : RowDithered gray mid r out' work') where
      down_is : (x : ℕ) → x < length gray
          → handed_down (length gray) (gray_of gray) (sums_of mid) x ≡ handed_down (length gray) (gray_of gray) (handed_to level work) x
      down_is = down-same w (gray_of gray) (gray_of gray) (sums_of mid) (handed_to level work) (λ i l. (refl, same i l))

      down-held : (t : Bool) → r ≡ t → (x : ℕ) → x < length gray
          → handed_to t work' x ≡ handed_down (length gray) (gray_of gray) (sums_of mid) x
      down-held true e x l = sym (d.level e x l)
      down-held false e x l = held work' x (handed_down w (gray_of gray) (sums_of mid) x) (d.sums x l)

      next-dithered : drop (length gray) mid ≡ drop (length gray) work → RowNext level gray work r out' work'
      next-dithered b =
          record {
            bytes =
                d.bytes
                ∙ row_same w (dot_by gray (sums_of mid)) (dot_by gray (handed_to level work))
                (λ x l. ap (λ (v : ℕ). v / 256)
                (value_same w (gray_of gray) (gray_of gray) (sums_of mid) (handed_to level work) (λ i k. (refl, same i k)) x l));
            down = λ x l. down-held r refl x l ∙ down_is x l;
            sums = λ e.
                record {
                  is = λ x l. d.sums x l ∙ ap pos (sym (down-held false e x l));
                  small = λ x l.
                      rw (down-held false e x l)
                      (down-small w (gray_of gray) (sums_of mid) (λ i k. (bytes i, given.small i k)) x l);
                };
            beyond = d.beyond ∙ b;
          }

    pub next-from-sums : (level t : Bool) (out₁ : List ℕ) (mid : List ℤ) (r : Bool) (work' : List ℤ) → t ≡ false
        → RowBegun level gray work t out₁ mid → RowDithered gray mid r out' work' → RowNext level gray work r out' work'
    next-from-sums level t out₁ mid r work' e g d = next-dithered level mid r work' (g.sums e) (g.same e) d g.beyond
