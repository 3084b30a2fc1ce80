use Rattle.encode_session.proofs.CloseCorrect.{closes-shut, closes-early, closes-whole}
use Rattle.encode_session.proofs.EncodeSession.close.Goals as goal

pub returns-then-not-self : goal.returns-then-not-self
returns-then-not-self c = closes-shut _ _ c.new.ensures c.if-not-self.true

pub returns-then-not-whole_frames : goal.returns-then-not-whole_frames
returns-then-not-whole_frames c =
    closes-early _ c.if-not-self.false _ c.whole_frames.ensures _ c.new-then-not-whole_frames.ensures c.if-not-whole_frames.true

pub returns : goal.returns
returns c = closes-whole _ c.if-not-self.false _ c.whole_frames.ensures c.if-not-whole_frames.false
