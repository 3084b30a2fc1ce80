use Rattle.std.proofs.Common.{◌≡◌, ℕ, ◌+◌, get_or, drop, sym, ap, ◌∙◌, arith, max, length, Result, Ok}
use Rattle.error.specs.Answer.{answered, gives}
use Rattle.error.specs.declared.WbmpError.{WbmpError}
use Rattle.laws.proofs.Answers.{passed}
use Rattle.mbi.specs.Read.{ByteRead, read_byte, read_rest, read_mbi, upon, step_meaning}
use Rattle.std.specs.declared.ops.ControlFlow.{ControlFlow}
use Rattle.mbi.proofs.Step.{known, word-is}
use Rattle.mbi.proofs.Continuation.{rest_at, rest_end}
use Rattle.mbi.proofs.read_mbi.Goals as goal
use Rattle.mbi.proofs.read_mbi.Goals.{After-mbi_step}

-- what the byte did, as the definition has it
did : (c : After-mbi_step) (x : Result (ControlFlow ℕ ℕ) WbmpError) → c.mbi_step.result ≡ x
    → let a = c.args in
    let l = c.loop-at in
    read_byte a.strict l.at l.value l.count (get_or a.bytes.now l.at 0) ≡ step_meaning x
did c x e = sym (c.mbi_step.ensures.does ∙ word-is _ _ _ _ _ (omega arith)) ∙ ap step_meaning e

-- after the step
turned : (c : After-mbi_step) (x : Result (ControlFlow ℕ ℕ) WbmpError) → c.mbi_step.result ≡ x
    → let a = c.args in
    let l = c.loop-at in
    read_mbi a.strict a.bytes.now a.offset
    ≡ upon (step_meaning x) (λ w. read_rest a.strict (drop (l.at + 1) a.bytes.now) (l.at + 1) w (l.count + 1))
    (λ w. gives (w, l.at + 1))
turned c x e =
    let a = c.args in
    let l = c.loop-at in
    l.invariant.1 ∙ rest_at a.strict a.bytes.now l.at l.value l.count c.loop-at-test.true
    ∙ ap (λ (y : ByteRead). upon y (λ w. read_rest a.strict (drop (l.at + 1) a.bytes.now) (l.at + 1) w (l.count + 1))
    (λ w. gives (w, l.at + 1))) (did c x e)

pub returns-in_err-v : goal.returns-in_err-v
returns-in_err-v c =
    ap answered (passed _ _ c.from_residual.ensures.1) ∙ sym (turned (goal.at.returns-in_err-v c).After-mbi_step _ c.in_err-v.was)

pub overflow_add-count : goal.overflow_add-count
overflow_add-count c =
    let k = known _ _ _ _ _ _ (did (goal.at.overflow_add-count c).After-mbi_step _ (c.in_ok-v.was ∙ ap Ok c.in-Continue.is)) in
    omega (arith, k.0.few)

pub loop-at-preserved : goal.loop-at-preserved
loop-at-preserved c = (omega arith, turned (goal.at.loop-at-preserved c).After-mbi_step _ (c.in_ok-v.was ∙ ap Ok c.in-Continue.is))

pub returns-in-Break : goal.returns-in-Break
returns-in-Break c = sym (turned (goal.at.returns-in-Break c).After-mbi_step _ (c.in_ok-v.was ∙ ap Ok c.in-Break.is))

pub returns : goal.returns
returns c =
    let a = c.args in
    let l = c.loop-at in
    let e : max a.offset (length a.bytes.now) ≡ l.at = omega arith in
    rw (c.new.ensures, c.max.ensures, e) (sym (l.invariant.1 ∙ rest_end a.strict a.bytes.now l.at l.value l.count c.loop-at-test.false))
