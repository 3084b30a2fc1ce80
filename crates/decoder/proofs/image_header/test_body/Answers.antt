use Rattle.std.proofs.Common.{Result}
use Rattle.error.specs.declared.WbmpError.{WbmpError}
use Rattle.std.proofs.lemmas.Result.{err_from_is_err_and}
use mathlib.Core.Path.{◌≡◌, ◌∙◌, sym}
use Rattle.error.specs.Answer.{bind, checked}
use Rattle.header.specs.Read.{parsed}
use Rattle.options.specs.Limits.{decoding}
use Rattle.decoder.specs.Image.{test_body}
use Rattle.decoder.proofs.Headed.{after_limits, on-limits, short, enough}
use Rattle.decoder.proofs.image_header.test_body.Goals as goal
use Rattle.decoder.proofs.image_header.test_body.Goals.{After-check}

limits-tested : (c : After-check) (x : Result (Unit {0}) WbmpError) → c.check.result ≡ x
    → let a = c.args in
    test_body (decoding a.options) a.size (parsed a.h) ≡ bind (checked x) (λ _. after_limits a.size (parsed a.h))
limits-tested c x e =
    let a = c.args in
    on-limits (decoding a.options) a.size a.h c.new-layout.result c.check.result c.new-layout.ensures
    c.check.ensures x e

pub returns-in_err-check : goal.returns-in_err-check
returns-in_err-check c =
    let p = err_from_is_err_and c.from_residual.result c.from_residual.ensures.1 in
    rw (p.1, p.2) (sym (limits-tested (goal.at.returns-in_err-check c).After-check _ c.in_err-check.was))

pub returns-then-saturating_sub-plane : goal.returns-then-saturating_sub-plane
returns-then-saturating_sub-plane c =
    let a = c.args in
    rw c.new.ensures
    (sym
    (limits-tested (goal.at.returns-then-saturating_sub-plane c).After-check _ c.in_ok-check.was
    ∙ short a.size a.h c.new-layout.result c.saturating_sub.result c.new-layout.ensures
    c.saturating_sub.ensures c.if-saturating_sub-plane.true))

pub returns : goal.returns
returns c =
    let a = c.args in
    sym
    (limits-tested (goal.at.returns c).After-check _ c.in_ok-check.was
    ∙ enough a.size a.h c.new-layout.result c.saturating_sub.result c.new-layout.ensures
    c.saturating_sub.ensures c.if-saturating_sub-plane.false)
