-- What `dots` promises, rule by rule.
-- Assumes nothing.
use Prim.Native.Nat.{ℕ, zero, suc, ◌+◌, ◌*◌, ◌≤◌}
use mathlib.Core.Path.{◌≡◌, refl, sym, ap, ◌∙◌, subst}
use mathlib.Core.Bool.{Bool, true}
use mathlib.Core.List.{List}
use borrow.Author.Tests.{leb-true}
use lib.IntN.{ℤ}
use lib.Dec.{leb}
use lib.ListN.{length, get_or, take}
use Rattle.error.specs.Choice.{if}
use Rattle.options.specs.declared.Quantize.{Quantize}
use Rattle.options.specs.declared.Quantize.TheVariants.{Threshold, Dither, Ordered}
use Rattle.rules.specs.Bits.{bit, appended}
use Rattle.rules.specs.Ordered.{bound, known_side}
use Rattle.rules.specs.Rule.{threshold, ordered, known_rule, carries, enough_work, rule_named, rule_given}
use Rattle.dither.specs.Internal.Carry.{Carry, machine_dot, next}
use Rattle.rules.specs.Internal.Kernels.{threshold_bit}
use Rattle.dither.specs.Internal.Kernels.{row_carry, row_bit, carry_of}
use Rattle.ordered.specs.Internal.Sides.{ordered_bit}
use Rattle.quantize.specs.Internal.Turn.{rule_of, Dotted, Served}
use Rattle.rules.proofs.DigitsAppended.{appended-ext}
use Rattle.rules.proofs.RuleAsked.{side-spares}
use Rattle.ordered.proofs.OrderedNumbers.{known_small, cell-front}

module _ (w y x : ℕ) (gray : List ℕ) (c : Carry) where
  pub threshold-carry : (t i : ℕ) → row_carry (threshold t) w y x gray c i ≡ c
  unfolding row_carry next
  threshold-carry t zero = refl
  threshold-carry t (suc i) = threshold-carry t i

  pub ordered-carry : (side : ℕ) (table : List ℕ) (i : ℕ) → row_carry (ordered side table) w y x gray c i ≡ c
  unfolding row_carry next
  ordered-carry side table zero = refl
  ordered-carry side table (suc i) = ordered-carry side table i

  threshold-bit : (t i : ℕ) → row_bit (threshold t) w y x gray c i ≡ threshold_bit t gray i
  unfolding row_bit machine_dot
  threshold-bit t i = refl

  ordered-bit : (side : ℕ) (table : List ℕ) → known_side side ≡ true → (i : ℕ)
      → row_bit (ordered side (take (side * side) table)) w y x gray c i ≡ ordered_bit side table y x gray i
  unfolding row_bit machine_dot
  ordered-bit side table h i =
      ap (λ (n : ℕ). bit (leb (bound side n) (get_or gray i 0))) (cell-front side table (x + i) y (known_small side h).0)

module _ (rule : Quantize) (table : List ℕ) (w y x : ℕ) (gray : List ℕ) (begun corner : ℕ) (work : List ℤ) where
  abbrev Gives : Quantize → ℕ → ℕ → List ℤ → Type 0
  Gives r digits corner' work' = Dotted r table w y x gray begun corner work (record { digits = digits; corner = corner' }) work'

  pub dots-threshold : (t digits : ℕ) → rule ≡ Threshold t → corner ≤ 256 → digits ≡ appended begun (threshold_bit t gray) (length gray)
      → Gives rule digits corner work
  dots-threshold t digits e h g =
      subst (λ (r : Quantize). Gives r digits corner work) (sym e)
      (record {
        digits =
            g ∙ appended-ext begun (threshold_bit t gray) (row_bit (threshold t) w y x gray (carry_of corner work)) (length gray)
            (λ i l. sym (threshold-bit w y x gray (carry_of corner work) t i));
        carry = threshold-carry w y x gray (carry_of corner work) t (length gray);
        small = h;
      })

  pub dots-ordered : (side digits : ℕ) → rule ≡ Ordered side → known_side side ≡ true → corner ≤ 256
      → digits ≡ appended begun (ordered_bit side table y x gray) (length gray) → Gives rule digits corner work
  dots-ordered side digits e k h g =
      let t = take (side * side) table in
      subst (λ (r : Quantize). Gives r digits corner work) (sym e)
      (record {
        digits =
            g ∙ appended-ext begun (ordered_bit side table y x gray) (row_bit (ordered side t) w y x gray (carry_of corner work)) (length gray)
            (λ i l. sym (ordered-bit w y x gray (carry_of corner work) side table k i));
        carry = ordered-carry w y x gray (carry_of corner work) side t (length gray);
        small = h;
      })

-- what the rule needs, once it is known
pub served-dither : (rule : Quantize) (w work : ℕ) → rule ≡ Dither → Served rule w work → 2 * w ≤ work
served-dither rule w work e s =
    leb-true (2 * w) work (subst (λ (r : Quantize). enough_work (rule_given (rule_named r)) w work ≡ true) e s.room)

pub served-ordered : (rule : Quantize) (w work side : ℕ) → rule ≡ Ordered side → Served rule w work → known_side side ≡ true
served-ordered rule w work side e s = subst (λ (r : Quantize). known_rule r ≡ true) e s.known

-- with whatever table
pub carries_same : (rule : Quantize) (table : List ℕ) → carries (rule_of rule table) ≡ carries (rule_given (rule_named rule))
carries_same (Threshold t) table = refl
carries_same Dither table = refl
carries_same (Ordered side) table = sym (side-spares side)

pub enough-work-same : (rule : Quantize) (table : List ℕ) (w work : ℕ)
    → enough_work (rule_of rule table) w work ≡ enough_work (rule_given (rule_named rule)) w work
enough-work-same rule table w work = ap (λ (b : Bool). if b (leb (2 * w) work) true) (carries_same rule table)
