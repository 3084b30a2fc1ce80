use mathlib.Core.Path.{refl, subst}
use native.Mathlib.Omega.{arith}
use Rattle.replay.specs.Calls.{Nexts}
use Rattle.replay.proofs.RunLoop.{begun, lent_in, stops, ends-here, ends-all, one_more}
use Rattle.replay.proofs.run.run.Goals as goal

pub loop-made-init : goal.loop-made-init
loop-made-init g c = begun _ _ _ _ _ _ _ _

pub overflow_sub-room : goal.overflow_sub-room
overflow_sub-room g c =
    let a = c.loop-made.auto in
    lent_in _ _ _ _ _ _ _ _ _ _ _ _ _ _ c.loop-made.invariant a.out a.work a.answers

pub returns-in_default : goal.returns-in_default
returns-in_default g c =
    let a = c.loop-made.auto in
    let so = c.loop-made.invariant in
    stops _ _ _ _ _ _ _ _ _ _ _ _ _ _ so a.out a.work a.answers _ refl
    (ends-here _ _ _ _ _ _ _ _ _ _ _ _ _ _ so a.out a.work a.answers
    (subst (Nexts _ _ _ _) c.in_default.is c.next_call-next.ensures))

pub slice_bounds-make_call-count : goal.slice_bounds-make_call-count
slice_bounds-make_call-count g c =
    let a = c.loop-made.auto in
    lent_in _ _ _ _ _ _ _ _ _ _ _ _ _ _ c.loop-made.invariant a.out a.work a.answers

pub loop-made-preserved : goal.loop-made-preserved
loop-made-preserved g c =
    let a = c.loop-made.auto in
    one_more _ _ _ _ _ _ _ _ _ _ _ _ _ _ c.loop-made.invariant a.out a.work a.answers c.in-Some.call c.in-Some.ensures
    (omega (arith, c.loop-made-test.true, c.min-most.ensures)) _ _ _ _ c.make_call-answer.ensures _
    c.store.ensures _ c.room-lent.ensures

pub returns : goal.returns
returns g c =
    let a = c.loop-made.auto in
    let so = c.loop-made.invariant in
    stops _ _ _ _ _ _ _ _ _ _ _ _ _ _ so a.out a.work a.answers _ (omega (arith, c.loop-made-test.false, a.made-end))
    (ends-all _ _ _ _ _ _ _ _ _ _ _ _ _ _ so a.out a.work a.answers (omega (arith, c.loop-made-test.false, c.min-most.ensures, a.answers)))
