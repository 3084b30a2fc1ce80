-- The test of a rule and of a work buffer by itself, before what follows it.
-- Assumes nothing.
use Prim.Native.Nat.{ℕ}
use mathlib.Core.Path.{◌≡◌, refl}
use mathlib.Core.Bool.{Bool, true, false}
use Rattle.error.specs.Answer.{Answer, gives, refuses, bind}
use Rattle.error.specs.Choice.{if}
use Rattle.options.specs.declared.Quantize.{Quantize}
use Rattle.rules.specs.Rule.{Rule, enough_work, rule_named}

-- what `check_rule` answers of a known rule, and of every rule
abbrev by_work : Bool → Answer (Unit {0})
by_work served = if served (gives tt) (refuses 28 0)

abbrev pub rule_checked : Quantize → ℕ → ℕ → Answer (Unit {0})
rule_checked asked w work = bind (rule_named asked) (λ rule. by_work (enough_work rule w work))

pub checked-first : {A : Type 0} (asked : Quantize) (w work : ℕ) (rest : Answer A)
    → bind (rule_named asked) (λ rule. if (enough_work rule w work) rest (refuses 28 0)) ≡ bind (rule_checked asked w work) (λ _. rest)
checked-first {A} asked w work rest = go (rule_named asked)
  where
    known : (served : Bool) → if served rest (refuses 28 0) ≡ bind (by_work served) (λ _. rest)
    known true = refl
    known false = refl

    go : (r : Answer Rule)
        → bind r (λ rule. if (enough_work rule w work) rest (refuses 28 0))
        ≡ bind (bind r (λ rule. by_work (enough_work rule w work))) (λ _. rest)
    go (gives rule) = known (enough_work rule w work)
    go (refuses code place) = refl
