use Rattle.std.proofs.Common.{◌≡◌, ◌+◌, refl, ap, ◌∙◌, arith, Ok}
use Rattle.std.proofs.lemmas.Result.{err_from_is_err_and}
use Rattle.laws.proofs.Tests.{zero_one}
use Rattle.header_pieces.proofs.HeaderLoop.{Turn, turn_more, turn-done, turn-refused, going-first, going-last, ends, took, untaken}
use Rattle.header_pieces.proofs.RunStored.{going-run}
use Rattle.header_pieces.proofs.feed_header.Goals as goal
use Rattle.header_pieces.proofs.feed_header.Goals.{After-keep-kept}

-- what the code has done with a byte, before it looks at the step
turn : (k : After-keep-kept)
    → let l = k.loop-run in
    let a = k.args in
    Turn a.piece.now a.reading.at l.run.taken l.run.reader l.run.kept l.ext
    k.step-step.result k.keep-kept.result
    k.keep-kept.new.ext
turn k =
    let l = k.loop-run in
    record {
      within = k.loop-run-test.true;
      big = omega (arith, l.invariant.1, l.invariant.3);
      inside = k.in_fields-inside.result;
      wanted = k.is_kept-wanted.result;
      tells = k.in_fields-inside.ensures;
      stepped = k.step-step.ensures;
      wants = k.is_kept-wanted.ensures;
      keeps = k.keep-kept.ensures;
    }

pub returns-then-ext-lt-EXTENSION_BYTES : goal.returns-then-ext-lt-EXTENSION_BYTES
returns-then-ext-lt-EXTENSION_BYTES c = untaken _ _ _ c.if-ext-lt-EXTENSION_BYTES.true

pub loop-run-init : goal.loop-run-init
loop-run-init c = (omega arith, refl, λ o bytes h. going-first o bytes _ _ _ _ _ h, omega arith)

pub loop-run-preserved : goal.loop-run-preserved
loop-run-preserved c =
    let l = c.loop-run in (
      c.run_on-run.ensures.within,
      c.run_on-run.auto.ext ∙ c.keep-kept.auto.ext ∙ l.invariant.1,
      λ o bytes h. going-run o bytes _ _ _ _ _ _ _ _ _ _
          (turn_more o bytes _ _ _ _ _ _ _ _ _ _ _ (l.invariant.2 o bytes h) (turn (goal.at.loop-run-preserved c).After-keep-kept) _
          (c.in_ok-next.was ∙ ap Ok c.in-Continue.is))
          c.run_on-run.ensures (omega (arith, (turn (goal.at.loop-run-preserved c).After-keep-kept).big, c.keep-kept.auto.ext)),
      l.invariant.3,
    )

pub shape_of-ext-in-Break : goal.shape_of-ext-in-Break
shape_of-ext-in-Break c = c.keep-kept.auto.ext ∙ c.loop-run.invariant.1

pub returns-in-Break : goal.returns-in-Break
returns-in-Break c =
    let l = c.loop-run in
    ends l.invariant.3 (λ h n e. let same : l.run.taken + 1 ≡ n = ap took e in omega (arith, (turn (goal.at.returns-in-Break c).After-keep-kept).within))
    (λ o bytes h. turn-done o bytes _ _ _ _ _ _ _ _ _ _ _ (l.invariant.2 o bytes h) (turn (goal.at.returns-in-Break c).After-keep-kept) _ (c.in_ok-next.was ∙ ap Ok c.in-Break.is))

pub shape_of-ext-in_err-next : goal.shape_of-ext-in_err-next
shape_of-ext-in_err-next c = c.keep-kept.auto.ext ∙ c.loop-run.invariant.1

pub returns-in_err-next : goal.returns-in_err-next
returns-in_err-next c =
    let l = c.loop-run in
    let p = err_from_is_err_and c.from_residual.result c.from_residual.ensures.1 in
    rw (p.1, p.2)
    (ends l.invariant.3 (λ h n e. zero_one (cc))
    (λ o bytes h. turn-refused o bytes _ _ _ _ _ _ _ _ _ _ _ (l.invariant.2 o bytes h) (turn (goal.at.returns-in_err-next c).After-keep-kept) _ c.in_err-next.was))

pub shape_of-ext : goal.shape_of-ext
shape_of-ext c = c.loop-run.invariant.1

pub returns : goal.returns
returns c =
    let l = c.loop-run in
    ends l.invariant.3 (λ h n e. zero_one (cc))
    (λ o bytes h. going-last o bytes _ _ _ _ _ _ _ _ _ (l.invariant.2 o bytes h) c.loop-run-test.false refl)
