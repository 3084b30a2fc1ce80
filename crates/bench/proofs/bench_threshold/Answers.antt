use Rattle.bench.proofs.Makes.{made}
use Rattle.bench.proofs.bench_threshold.Goals as goal

pub returns : goal.returns
returns c = made _ _ _ _ _ c.threshold_bits.ensures c.number.ensures
