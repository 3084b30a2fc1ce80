use mathlib.Core.Path.{sym, ap, ◌∙◌}
use Rattle.image.specs.declared.PixelFormat.{PixelFormat}
use Rattle.body_pieces.specs.InFormat.{body_from}
use Rattle.body_pieces.proofs.Formats.{white-is, black-is}
use Rattle.body_pieces.proofs.convert.convert.Goals as goal

pub returns-in-MonoBlack : goal.returns-in-MonoBlack
returns-in-MonoBlack c =
    let a = c.args in
    black-is a.format a.width a.at a.bytes.now a.out.now _ _ c.requires c.into_format.ensures
    ∙ ap (λ (f : PixelFormat). body_from f a.width a.at a.bytes.now) (sym c.in-MonoBlack.is)

pub returns-in-MonoWhite : goal.returns-in-MonoWhite
returns-in-MonoWhite c =
    let a = c.args in
    white-is a.width a.at a.bytes.now a.out.now _ _ _ c.requires c.invert_into.ensures c.clear_ends.ensures
    ∙ ap (λ (f : PixelFormat). body_from f a.width a.at a.bytes.now) (sym c.in-MonoWhite.is)
