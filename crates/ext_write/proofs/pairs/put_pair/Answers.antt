use Rattle.std.proofs.Common.{◌+◌, ◌∙◌, inl, inr, length-set, arith}
use Rattle.ext_write.proofs.PairSteps.{long-identifier, long-value, short-text, no_room, room, cannot-put, put-moves, put-done, put-copied}
use Rattle.ext_write.proofs.pairs.put_pair.Goals as goal
use Rattle.ext_write.proofs.pairs.put_pair.Goals.{then-text-at-via-then-text-at, then-text-at-via-else-text-at+then-text-at-2, then-text-at-via-else-text-at+else-text-at-2+then-out-to}

pub returns-then-pair-gt7 : goal.returns-then-pair-gt7
returns-then-pair-gt7 c = elim c.then-pair-gt7.either [
  | inl h ↦ cannot-put _ _ _ _ _ _ (long-identifier _ _ _ _ _ h)
  | inr h ↦ cannot-put _ _ _ _ _ _ (long-value _ _ _ _ _ h.0 h.1)
]

pub returns-then-text-at : goal.returns-then-text-at
returns-then-text-at c = elim c.then-text-at.branch [
  | then-text-at-via-then-text-at w ↦
      cannot-put _ _ _ _ _ _ (short-text _ _ _ _ _ (omega arith) (omega arith) (omega (arith, w.if-text-at.true)))
  | then-text-at-via-else-text-at+then-text-at-2 w ↦
      cannot-put _ _ _ _ _ _
      (short-text _ _ _ _ _ (omega arith) (omega arith) (omega (arith, w.if-text-at.false, w.if-text-at-2.true)))
  | then-text-at-via-else-text-at+else-text-at-2+then-out-to w ↦
      cannot-put _ _ _ _ _ _
      (no_room _ _ _ _ _ (omega arith) (omega arith) (omega (arith, w.if-text-at.false, w.if-text-at-2.false)) (omega (arith, w.if-out-to.true)))
]

pub returns-then-out-body : goal.returns-then-out-body
returns-then-out-body c = cannot-put _ _ _ _ _ _ (no_room _ _ _ _ _ (omega arith) (omega arith) (omega arith) (omega arith))

pub returns : goal.returns
returns c =
    let a = c.args in
    let q = room a.text.now a.out.now a.s a.pair.identifier_len a.pair.value_len (omega arith) (omega arith) (omega arith)
    (omega arith) in (
      put-moves _ _ _ _ _ a.more q,
      put-copied a.text.now _ _ a.s.at (a.s.to + 1) _ _ (a.pair.identifier_len + a.pair.value_len) (omega arith) (omega arith) (omega arith)
          (simp length-set (omega arith)) c.copy.ensures
          ∙ put-done _ _ _ _ _ _ q _ c.pair_header.ensures (omega arith),
    )
