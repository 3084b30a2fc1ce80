use mathlib.Core.Path.{◌∙◌}
use Rattle.laws.proofs.Runs.{sets-append}
use Rattle.mbi.specs.Bytes.{mbi_bytes}
use Rattle.header.proofs.write.put_sizes.Goals as goal

pub returns : goal.returns
returns c =
    let p = c.put_integer-next in
    c.put_integer.ensures.1
    ∙ rw (p.ensures.0, p.ensures.1) (sets-append c.args.out.now c.args.at (mbi_bytes c.args.width)
    (mbi_bytes c.args.height))
