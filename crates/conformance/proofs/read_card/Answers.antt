use Rattle.conformance.proofs.CardCalls.{reads-card}
use Rattle.conformance.proofs.read_card.Goals as goal

pub returns : goal.returns
returns c = reads-card _ _ _ _ _ _ _ _ _ _ _ _ _ c.open-opening.ensures c.feed.ensures c.close.ensures c.header.ensures
