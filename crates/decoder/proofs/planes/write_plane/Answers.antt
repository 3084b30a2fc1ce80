use mathlib.Core.Path.{ap, ◌∙◌}
use mathlib.Core.List.{◌++◌}
use native.Mathlib.Omega.{arith}
use borrow.Author.Tests.{le-leb}
use lib.Dec.{leb}
use lib.ListN.{length, drop}
use Rattle.laws.proofs.Tests.{if-true}
use Rattle.image.specs.Geometry.{row_bytes}
use Rattle.image.specs.Rows.{convert_format}
use Rattle.image.specs.declared.PixelFormat.TheVariants.{MonoBlack}
use Rattle.image.proofs.ConvertedBytes.{format-length}
use Rattle.decoder.proofs.planes.write_plane.Goals as goal

pub returns : goal.returns
returns c =
    let a = c.args in
    let plane = convert_format MonoBlack a.format a.width a.height (row_bytes a.width) a.plane.now in
    let long = format-length MonoBlack a.format a.width a.height (row_bytes a.width) a.plane.now in
    c.into_format.ensures.bytes
    ∙ if-true (leb (length plane) (length a.out.now)) (plane ++ drop (length plane) a.out.now) a.out.now
    (le-leb (length plane) (length a.out.now) (omega (arith, long, c.requires)))
    ∙ ap (λ n. plane ++ drop n a.out.now) long
