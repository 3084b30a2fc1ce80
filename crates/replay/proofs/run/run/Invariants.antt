use Rattle.replay.proofs.RunLoop.{Sofar}
use Rattle.replay.proofs.run.run.Given as goal

abbrev pub invariant-loop-made : goal.invariant-loop-made
invariant-loop-made g l =
    Sofar g.S.Session.feeds g.S.Session.closes l.samples l.calls l.initial.session l.initial.out l.initial.work l.initial.answers l.session
    l.out l.work l.answers l.made l.lent
