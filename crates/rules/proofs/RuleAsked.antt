-- The rule that is asked for, as a test.
-- Assumes nothing.
use Prim.Native.Nat.{ℕ}
use mathlib.Core.Path.{◌≡◌, refl}
use mathlib.Core.Bool.{Bool, true, false}
use Rattle.error.specs.Choice.{if}
use Rattle.error.specs.Answer.{Answer, gives, refuses, bind}
use Rattle.laws.proofs.Tests.{zero_one}
use Rattle.options.specs.declared.EncodeOptions.{EncodeOptions}
use Rattle.options.specs.declared.Quantize.{Quantize}
use Rattle.options.specs.declared.Quantize.TheVariants.{Ordered}
use Rattle.rules.specs.Ordered.{known_side}
use Rattle.rules.specs.Rule.{Rule, meaning, known_rule, carries, rule_named, rule_asked, rule_given}

pub named-if : {A : Type 0} (setting : Quantize) (f : Rule → Answer A)
    → bind (rule_named setting) f ≡ if (known_rule setting) (f (rule_given (rule_named setting))) (refuses 29 0)
named-if {A} setting f = go (known_rule setting)
  where
    named : Bool → Answer Rule
    named b = if b (gives (meaning setting)) (refuses 29 0)

    go : (b : Bool) → bind (named b) f ≡ if b (f (rule_given (named b))) (refuses 29 0)
    go true = refl
    go false = refl

pub asked-if : {A : Type 0} (o : EncodeOptions) (f : Rule → Answer A)
    → bind (rule_asked o) f ≡ if (known_rule o.quantize) (f (rule_given (rule_asked o))) (refuses 29 0)
asked-if o f = named-if o.quantize f

-- a known rule is given, and a given one is known
pub known-named : (setting : Quantize) → known_rule setting ≡ true → rule_named setting ≡ gives (rule_given (rule_named setting))
known-named setting e = rw e

pub named-known : (setting : Quantize) (rule : Rule) → rule_named setting ≡ gives rule
    → (known_rule setting ≡ true) × (meaning setting ≡ rule)
named-known setting rule = go (known_rule setting)
  where
    go : (b : Bool) → if b (gives (meaning setting)) (refuses 29 0) ≡ gives rule → (b ≡ true) × (meaning setting ≡ rule)
    go true e = (refl, cc)
    go false e = zero_one (cc)

-- a side, known or not, keeps no carries
pub side-spares : (side : ℕ) → carries (rule_given (rule_named (Ordered side))) ≡ false
side-spares side = go (known_side side)
  where
    go : (b : Bool) → carries (rule_given (if b (gives (meaning (Ordered side))) (refuses 29 0))) ≡ false
    go true = refl
    go false = refl
