use Prim.Native.Nat.{ℕ}
use mathlib.Core.Path.{sym, ap, ◌∙◌}
use mathlib.Core.List.{List}
use Rattle.error.specs.Answer.{refusal}
use Rattle.encode_session.specs.Model.{Opening, opening}
use Rattle.encode_session.proofs.OpenCorrect.{no-width, no-height, tested}
use Rattle.encode_session.proofs.check_opening.Goals as goal
use Rattle.encode_session.proofs.check_opening.Goals.{Start, then-width-eq0-via-then-width-eq0, then-width-eq0-via-else-width-eq0+then-height-eq0}

-- what the session is opened with, at any text and pairs
abbrev asked : Start → List ℕ → List ℕ → Opening
asked s text lengths =
    let a = s.args in
    opening a.options a.width a.height text lengths

pub returns-then-width-eq0 : goal.returns-then-width-eq0
returns-then-width-eq0 c text lengths =
    elim c.then-width-eq0.branch [
      | then-width-eq0-via-then-width-eq0 w ↦
          no-width (asked (goal.at.returns-then-width-eq0 c).Start text lengths) _ w.if-width-eq0.true ∙ sym (ap refusal c.new.ensures)
      | then-width-eq0-via-else-width-eq0+then-height-eq0 w ↦
          no-height (asked (goal.at.returns-then-width-eq0 c).Start text lengths) _ w.if-width-eq0.false w.if-height-eq0.true
          ∙ sym (ap refusal c.new.ensures)
    ]

pub returns : goal.returns
returns c text lengths =
    tested (asked (goal.at.returns c).Start text lengths) _ c.if-width-eq0.false c.if-height-eq0.false _ c.check_rule.ensures
