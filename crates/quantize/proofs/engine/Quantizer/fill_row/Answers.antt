use Rattle.std.proofs.Common.{arith, refl, [], add-zero}
use Rattle.quantize.proofs.FillByRule.{fills-none, filled-threshold, filled-dither}
use Rattle.quantize.proofs.engine.Quantizer.fill_row.Goals as goal
use Rattle.quantize.proofs.engine.Quantizer.fill_row.Goals.{in-Threshold, in-Dither}

pub returns-in-Ordered : goal.returns-in-Ordered
returns-in-Ordered c =
    record {
      wholes = record { there = omega arith; fits = omega arith; in_row = omega (arith, c.requires.in_row); aligned = λ h. absurd (omega arith) };
      bytes = [];
      fills = fills-none _ _ _ _ _ _ _;
      stored = refl;
      place = rw add-zero;
    }

pub returns : goal.returns
returns c =
    elim c.match-self.branch [
      | in-Threshold w ↦ filled-threshold _ _ _ _ _ _ c.requires _ c.whole_bytes-count.ensures _ _ _ _ w.out-is _ w.in-Threshold.is w.p-is
          w.work-is w.threshold_row_bytes.ensures
      | in-Dither w ↦ rw w.work-is (filled-dither _ _ _ _ _ _ c.requires _ c.whole_bytes-count.ensures _ _ _ _ w.out-is _ w.in-Dither.is w.p-is _
          (rw w.row_start-start.ensures at w.dither_row_bytes-p.ensures))
    ]
