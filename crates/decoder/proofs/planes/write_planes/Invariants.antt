use Rattle.header.specs.Read.{parsed}
use Rattle.decoder.proofs.Planed.{Planing}
use Rattle.decoder.proofs.planes.write_planes.Given as goal

abbrev pub invariant-loop-k : goal.invariant-loop-k
invariant-loop-k l = Planing l.format l.bytes (parsed l.h) l.initial.out l.plane l.frames l.out l.k
