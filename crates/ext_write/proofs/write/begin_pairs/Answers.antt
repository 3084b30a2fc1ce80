use mathlib.Core.Path.{◌∙◌, sym, ap}
use Rattle.std.proofs.lemmas.Result.{err_from_is_err_and}
use Rattle.error.specs.Answer.{answered, refusal}
use Rattle.error.specs.declared.WbmpError.{WbmpError}
use Rattle.ext_write.proofs.Begun.{refused-within, front_within, pairs-short, pairs-refused, pairs-fit}
use Rattle.ext_write.proofs.write.begin_pairs.Goals as goal

pub returns-in_err-end : goal.returns-in_err-end
returns-in_err-end c =
    let p = err_from_is_err_and c.from_residual.result c.from_residual.ensures.1 in
    rw (p.1, p.2) (
      refused-within _ _,
      λ strict text lengths old h e. pairs-refused strict text lengths old _ (ap answered (sym c.in_err-end.was) ∙ e),
    )

pub returns-then-room-end : goal.returns-then-room-end
returns-then-room-end c = (
  refused-within _ _,
  λ strict text lengths old h e. pairs-short strict text lengths old _ _ _ h
      (ap (λ (x : WbmpError). refusal x) c.new.ensures) (ap answered (sym c.in_ok-end.was) ∙ e) c.if-room-end.true,
)

pub returns : goal.returns
returns c = (
  front_within _ _,
  λ strict text lengths old h e. pairs-fit strict text lengths old _ _ h (ap answered (sym c.in_ok-end.was) ∙ e) c.if-room-end.false,
)
