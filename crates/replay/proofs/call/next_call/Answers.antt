use Rattle.replay.proofs.CallNamed.{closes, feeds, no-parts}
use Rattle.replay.proofs.call.next_call.Goals as goal

pub returns-then-numbers-eq0 : goal.returns-then-numbers-eq0
returns-then-numbers-eq0 c = closes _ _ _ _ c.requires c.if-numbers-eq0.true

pub returns-then-is_there : goal.returns-then-is_there
returns-then-is_there c = feeds _ _ _ _ c.requires c.if-numbers-eq0.false _ c.is_there.ensures c.if-is_there.true

pub returns-else-is_there : goal.returns-else-is_there
returns-else-is_there c = no-parts _ _ _ _ c.requires c.if-numbers-eq0.false _ c.is_there.ensures c.if-is_there.false
