use mathlib.Core.List.{[]}
use native.Mathlib.Omega.{arith}
use Rattle.laws.proofs.Writers.{emits_none}
use Rattle.header.specs.Write.{header_bytes}
use Rattle.header.proofs.HeaderBytes.{header-length, header-put}
use Rattle.header.proofs.write.write_header.Goals as goal

pub returns-then-out-total : goal.returns-then-out-total
returns-then-out-total c =
    rw c.new.ensures
    (emits_none (header_bytes 0 [] c.args.width c.args.height) c.args.out.now
    (omega (arith, c.if-out-total.true, c.plain_len-total.ensures, header-length 0 [] c.args.width c.args.height)))

pub returns : goal.returns
returns c =
    let e = header-length 0 [] c.args.width c.args.height in
    rw c.put_sizes.ensures
    (header-put 0 [] c.args.width c.args.height c.args.out.now c.plain_len-total.result
    (omega (arith, e, c.plain_len-total.ensures)) (omega arith))
