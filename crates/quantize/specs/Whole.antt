-- Whole planes: `quantize_gray8` and its like (document 01: 8, 29, 28, 22 and then 25, place 0).
use Rattle.std.specs.Prelude.{ℕ, ◌*◌, ◌≡◌, false, ◌||◌, List, leb, eqb, ℤ, length, take, drop}
use Rattle.error.specs.Choice.{if}
use Rattle.error.specs.Answer.{Answer, gives, refuses, bind, map}
use Rattle.error.specs.Emits.{Emits}
use Rattle.options.specs.declared.Quantize.{Quantize}
use Rattle.quantize.specs.Finished.{finished, setting}
use Rattle.rules.specs.Rule.{Rule, carries, enough_work, rule_named, rule_given}

-- the rule that a scan of so many samples is made by, with so many numbers of work
abbrev pub check_scan : Quantize → ℕ → ℕ → ℕ → ℕ → Answer Rule
check_scan asked w h gray work =
    if (eqb w 0 || eqb h 0) (refuses 8 0)
    (bind (rule_named asked)
    (λ rule. if (enough_work rule w work)
    (if (leb (w * h) gray) (gives rule) (refuses 22 0))
    (refuses 28 0)))

-- whether there is one
abbrev pub scan_checked : Quantize → ℕ → ℕ → ℕ → ℕ → Answer (Unit {0})
scan_checked asked w h gray work = map (λ rule. tt) (check_scan asked w h gray work)

-- the plane of a scan of width × height samples; surplus gray is ignored
unfoldable pub quantized : Quantize → ℕ → ℕ → List ℕ → ℕ → Answer (List ℕ)
quantized asked w h gray work =
    map (λ rule. finished (setting rule w h 1) (take (w * h) gray)) (check_scan asked w h (length gray) work)

-- the plane or the refusal; a work buffer is altered by a rule that keeps carries alone, where it is not refused, in its first `width`
-- numbers
pub record Quantizes (asked : Quantize) (w h : ℕ) (gray out : List ℕ) (work : List ℤ) (r : Answer ℕ) (out' : List ℕ)
    (work' : List ℤ) : Type 0 where
  pub emits : Emits (quantized asked w h gray (length work)) r out out'
  pub beyond : drop w work' ≡ drop w work
  pub spared : carries (rule_given (rule_named asked)) ≡ false → work' ≡ work
  pub refused : (code place : ℕ) → r ≡ refuses code place → work' ≡ work
