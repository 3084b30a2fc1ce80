use Rattle.std.proofs.lemmas.Result.{err_from_is_err_and}
use mathlib.Core.Path.{◌∙◌, ap}
use Rattle.std.proofs.Common.{Ok}
use Rattle.decode_session.proofs.HeaderPiece.{more, whole, refused}
use Rattle.decode_session.proofs.feeding.feed_head.Goals as goal

pub returns-in_err-next : goal.returns-in_err-next
returns-in_err-next c =
    let p = err_from_is_err_and c.from_residual.result c.from_residual.ensures.1 in
    rw (p.1, p.2) (refused _ _ _ _ _ _ _ c.feed_header.ensures c.requires _ c.in_err-next.was)

pub feed_first-requires : goal.feed_first-requires
feed_first-requires c = c.feed_header.ensures.within _ _ (c.in_ok-next.was ∙ ap Ok c.in-Break.is)

pub returns-in-Continue : goal.returns-in-Continue
returns-in-Continue c = more _ _ _ _ _ _ _ c.feed_header.ensures c.requires _ (c.in_ok-next.was ∙ ap Ok c.in-Continue.is)

pub returns-in-Break : goal.returns-in-Break
returns-in-Break c =
    whole _ _ _ _ _ _ _ c.feed_header.ensures c.requires _ _ _ _ (c.in_ok-next.was ∙ ap Ok c.in-Break.is) c.feed_first.ensures
