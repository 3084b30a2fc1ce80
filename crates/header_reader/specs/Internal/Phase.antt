-- What the phases of the code's reader mean.
use Rattle.std.specs.Prelude.{ℕ, Bool, eqb, Result, Ok, Err}
use Rattle.error.specs.declared.WbmpError.{WbmpError}
use Rattle.error.specs.Choice.{if}
use Rattle.error.specs.Answer.{number}
use Rattle.header.specs.Read.{parsed}
use Rattle.header_reader.specs.Internal.Machine.{at_fix, Step, more, done, refused, found, to_width}
use Rattle.header_reader.specs.Internal.Standing.{fields_state, state}
use Rattle.header_reader.specs.declared.phase.FieldsPhase.{FieldsPhase}
use Rattle.header_reader.specs.declared.phase.PairChain.{PairChain}
use Rattle.std.specs.declared.ops.ControlFlow.{ControlFlow}
use Rattle.std.specs.declared.ops.ControlFlow.TheVariants.{Continue, Break}
use Rattle.header.specs.declared.ParsedHeader.{ParsedHeader}
use Rattle.header_reader.specs.declared.phase.Phase.{Phase}

abbrev pub moved : Result (ControlFlow ParsedHeader Phase) WbmpError → Step
moved (Ok (Continue p)) = more (state p)
moved (Ok (Break h)) = done (parsed h)
moved (Err e) = refused (number e.kind) e.offset

-- what follows the last of the pairs, its fault having waited, and the type
abbrev pub after_pair : PairChain → Bool → ℕ → Step
after_pair c again fault =
    if (eqb fault 0)
    (if again (more (fields_state (FieldsPhase.AtPair c))) (to_width c.fix (found c.fix c.start c.at c.pairs) c.at))
    (refused fault c.at)

abbrev pub type_step : ℕ → ℕ → Step
type_step value at = if (eqb value 0) (more (at_fix at)) (refused 5 at)
