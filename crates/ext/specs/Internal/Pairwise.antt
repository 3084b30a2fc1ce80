-- What reading one pair answers.
use Rattle.std.specs.Prelude.{ℕ, ◌+◌, Bool, true, false, List, eqb, Result, Ok, Err}
use Rattle.error.specs.Choice.{if}
use Rattle.error.specs.Answer.{Answer, gives, refuses, refusal}
use Rattle.ext.specs.Read.{PairAt, pair_parts}
use Rattle.ext.specs.declared.PairHeader.{PairHeader}
use Rattle.error.specs.declared.WbmpError.{WbmpError}
use Rattle.std.specs.declared.ops.ControlFlow.{ControlFlow}
use Rattle.std.specs.declared.ops.ControlFlow.TheVariants.{Continue, Break}

-- the pair of a file s behind its header byte, where the identifier starts at a
unfoldable pub pair_behind : Bool → List ℕ → ℕ → PairHeader → Answer PairAt
pair_behind strict s a h =
    if (eqb h.identifier_len 0) (refuses 11 a)
    (if (eqb h.value_len 0) (refuses 12 a)
    (pair_parts strict s h.more a (a + h.identifier_len) (a + h.identifier_len + h.value_len)))

-- whether one more pair follows, and the offset after this one
abbrev pub pair_step : PairAt → Bool × ℕ
pair_step p = (p.more, p.end)

abbrev pub pair_meaning : Result (ControlFlow ℕ ℕ) WbmpError → Answer (Bool × ℕ)
pair_meaning (Ok (Continue end)) = gives (true, end)
pair_meaning (Ok (Break end)) = gives (false, end)
pair_meaning (Err e) = refusal e
