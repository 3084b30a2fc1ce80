use Rattle.bench.proofs.Makes.{dithered}
use Rattle.bench.proofs.bench_dither.Goals as goal

pub returns : goal.returns
returns c = dithered _ _ _ _ _ _ _ _ _ c.dither_bits.ensures c.number.ensures
