use Rattle.conformance.proofs.CardCalls.{makes-card}
use Rattle.conformance.proofs.make_card.Goals as goal

pub returns : goal.returns
returns c =
    makes-card _ _ _ _ _ _ _ _ _ _ _ _ _ _ c.ranges.width.fits c.ranges.height.fits c.open-header.ensures c.feed.ensures
    c.close.ensures
