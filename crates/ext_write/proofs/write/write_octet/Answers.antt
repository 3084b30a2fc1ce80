use Rattle.std.proofs.Common.{arith}
use Rattle.ext_write.proofs.Begun.{octet-one, octet-emitted}
use Rattle.ext_write.proofs.write.write_octet.Goals as goal

pub bounds-text-0 : goal.bounds-text-0
bounds-text-0 c = (octet-one _ _ c.in_ok-len.ensures).1

pub bounds-out-0 : goal.bounds-out-0
bounds-out-0 c = omega (arith, (octet-one _ _ c.in_ok-len.ensures).0, c.if-out-len.false)

pub returns : goal.returns
returns c = octet-emitted _ _ _ c.in_ok-len.ensures c.if-out-len.false
