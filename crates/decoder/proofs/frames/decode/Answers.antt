use Rattle.std.proofs.Common.{Result}
use Rattle.header.specs.declared.ParsedHeader.{ParsedHeader}
use Rattle.error.specs.declared.WbmpError.{WbmpError}
use Rattle.std.proofs.lemmas.Result.{err_from_is_err_and}
use Prim.Native.Nat.{◌+◌}
use mathlib.Core.Path.{◌≡◌, sym, ap, ◌∙◌}
use Rattle.header.specs.Read.{meaning}
use Rattle.options.specs.Limits.{decoding}
use Rattle.decoder.specs.Image.{read_image}
use Rattle.decoder.proofs.Headed.{tested}
use Rattle.decoder.proofs.Fitted.{imaged, refused, image-parts}
use Rattle.decoder.proofs.frames.decode.Goals as goal
use Rattle.decoder.proofs.frames.decode.Goals.{After-read_image}

image-read : (c : After-read_image) (x : Result ParsedHeader WbmpError) → c.read_image.result ≡ x
    → let a = c.args in
    read_image (decoding a.options) a.bytes.now ≡ meaning x
image-read c x e =
    let a = c.args in
    sym (tested (decoding a.options) a.bytes.now) ∙ sym c.read_image.ensures ∙ ap meaning e

pub write_frames-requires : goal.write_frames-requires
write_frames-requires c = (c.requires, (image-parts (decoding c.args.options) c.args.bytes.now _ (image-read (goal.at.write_frames-requires c).After-read_image _ c.in_ok-h.was)).1)

pub returns : goal.returns
returns c =
    let a = c.args in
    imaged (1 + a.most) (decoding a.options) a.bytes.now a.out.now _ _ _ (image-read (goal.at.returns c).After-read_image _ c.in_ok-h.was)
    c.write_frames.ensures

pub returns-in_err-h : goal.returns-in_err-h
returns-in_err-h c =
    let a = c.args in
    let p = err_from_is_err_and c.from_residual.result c.from_residual.ensures.1 in
    rw (p.1, p.2)
    (refused (1 + a.most) (decoding a.options) a.bytes.now a.out.now _ _ (image-read (goal.at.returns-in_err-h c).After-read_image _ c.in_err-h.was))
