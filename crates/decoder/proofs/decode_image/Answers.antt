use mathlib.Core.Path.{refl}
use Rattle.options.specs.Limits.{decoding}
use Rattle.options.proofs.Ceilings.{passes}
use Rattle.decoder.proofs.Fitted.{decodes}
use Rattle.decoder.proofs.decode_image.Goals as goal

pub returns : goal.returns
returns c =
    let a = c.args in
    decodes _ (decoding a.options) a.bytes.now a.out.now _ _ _ (passes (decoding a.options)) (refl) c.decode.ensures
