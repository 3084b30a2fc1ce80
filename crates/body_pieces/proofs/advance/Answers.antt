use Prim.Native.Nat.{◌+◌, ◌-◌, ◌*◌, ◌≤◌}
use mathlib.Core.Path.{◌∙◌}
use native.Mathlib.Omega.{arith}
use Rattle.body_pieces.proofs.BodyCounts.{stuck, full, inside, all_there, reaches, goes_on}
use Rattle.body_pieces.proofs.advance.Goals as goal
use Rattle.body_pieces.proofs.advance.Goals.{Then-ahead-further}

pub returns-then-plane-begun : goal.returns-then-plane-begun
returns-then-plane-begun c = c.fed.ensures ∙ stuck _ _ _ _ _ _ c.if-plane-begun.true

pub returns-then-ceiling-whole : goal.returns-then-ceiling-whole
returns-then-ceiling-whole c = c.fed-then-ceiling-whole.ensures ∙ full _ _ _ _ _ _ c.if-plane-begun.false c.if-ceiling-whole.true

pub returns-then-most-left : goal.returns-then-most-left
returns-then-most-left c =
    c.fed-then-most-left.ensures
    ∙ inside _ _ _ _ _ _ c.if-plane-begun.false _ c.min-most.ensures c.if-ceiling-whole.false c.if-most-left.true

-- the planes that are left are within what is given
there : (c : Then-ahead-further)
    → let a = c.args in
    a.plane - a.begun + (a.ceiling - 1 - a.whole) * a.plane ≤ c.min-most.result
there c =
    all_there _ _ _ _ _ _ c.if-plane-begun.false _ c.min-most.ensures c.if-ceiling-whole.false c.if-most-left.false
    c.if-ahead-further.true

pub overflow_mul-ahead : goal.overflow_mul-ahead
overflow_mul-ahead c = omega (arith, there c)

pub overflow_add-left : goal.overflow_add-left
overflow_add-left c = omega (arith, there c)

pub returns-then-ahead-further : goal.returns-then-ahead-further
returns-then-ahead-further c =
    c.fed-then-ahead-further.ensures
    ∙ reaches _ _ _ _ _ _ c.if-plane-begun.false _ c.min-most.ensures c.if-ceiling-whole.false
    c.if-most-left.false c.if-ahead-further.true

pub returns : goal.returns
returns c =
    c.fed-2.ensures
    ∙ goes_on _ _ _ _ _ _ c.if-plane-begun.false _ c.min-most.ensures c.if-ceiling-whole.false
    c.if-most-left.false c.if-ahead-further.false
