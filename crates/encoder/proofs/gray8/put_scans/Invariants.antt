use Rattle.encoder.proofs.ScansLoop.{Scanning}
use Rattle.encoder.proofs.gray8.put_scans.Given as goal

abbrev pub invariant-loop-k : goal.invariant-loop-k
invariant-loop-k l =
    Scanning l.options.quantize l.width l.height l.k-end l.gray l.initial.work l.initial.out l.area l.plane l.work l.out l.k
