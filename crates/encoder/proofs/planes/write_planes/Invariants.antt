use Rattle.encoder.proofs.PlanesLoop.{Planing}
use Rattle.encoder.proofs.planes.write_planes.Given as goal

abbrev pub invariant-loop-k : goal.invariant-loop-k
invariant-loop-k l =
    Planing l.lent.format l.width l.height l.stride l.planes l.initial.out l.k-end l.plane l.needed l.out l.k
