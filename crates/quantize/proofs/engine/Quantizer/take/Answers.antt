use Rattle.std.proofs.Common.{refl}
use Rattle.dither.proofs.DitherDotsLoop.{dots-small}
use Rattle.quantize.proofs.engine.Quantizer.take.Goals as goal

pub advance-requires : goal.advance-requires
advance-requires c =
    let p = c.requires in
    record {
      some = p.dotting.some;
      left = p.left;
      in_row = p.dotting.within;
      in_byte = p.in_byte;
      in_frame = p.in_frame;
      high = p.high;
      digits_small = dots-small _ _ _ _ _ _ _ _ _ _ _ _ _ c.dots-d.ensures p.begun_small refl;
    }
