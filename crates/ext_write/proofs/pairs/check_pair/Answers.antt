use Rattle.std.proofs.Common.{◌∙◌, arith}
use Rattle.error.specs.Answer.{number_or_0}
use Rattle.ext_write.proofs.PairSteps.{step_past, step-within, parts-pair}
use Rattle.ext_write.proofs.pairs.check_pair.Goals as goal
use Rattle.ext_write.proofs.pairs.check_pair.Goals.{then-text-at-via-then-text-at, then-text-at-via-else-text-at+then-text-at-2}

pub returns-then-text-at : goal.returns-then-text-at
returns-then-text-at c = elim c.then-text-at.branch [
  | then-text-at-via-then-text-at w ↦ step_past _ _ _ _ _ (omega (arith, w.if-text-at.true))
  | then-text-at-via-else-text-at+then-text-at-2 w ↦ step_past _ _ _ _ _ (omega (arith, w.if-text-at.false, w.if-text-at-2.true))
]

pub returns-then-text-value : goal.returns-then-text-value
returns-then-text-value c = step_past _ _ _ _ _ (omega arith)

pub returns : goal.returns
returns c =
    let a = c.args in
    step-within _ _ _ _ _ (omega arith) _ _ c.start_after-start.ensures
    (c.first_refusal-refusal.ensures
    ∙ parts-pair a.strict (number_or_0 a.s.refusal) a.text.now a.s.at a.pair.identifier_len a.pair.value_len)
