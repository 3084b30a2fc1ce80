use native.Mathlib.Omega.{arith}
use Prim.Native.Nat.{◌+◌, ◌-◌}
use Rattle.header_reader.proofs.RunSteps.{octets-ahead, octets-run}
use Rattle.header_reader.proofs.run.run_octets.Goals as goal

pub overflow_add-result : goal.overflow_add-result
overflow_add-result c =
    let a = c.args in
    omega (arith, (octets-ahead (a.start + 4096 - a.at) a.piece.now _ c.octets_ahead-taken.ensures).within, c.well_formed)

pub returns : goal.returns
returns c = octets-run (c.args.start + 4096 - c.args.at) c.octets_ahead-taken.ensures (omega arith)
