use Rattle.std.proofs.Common.{arith}
use Rattle.ext_write.proofs.OctetsWritten.{octet-put, octets-put}
use Rattle.ext_write.proofs.write.put_octets.Goals as goal

pub loop-i-preserved : goal.loop-i-preserved
loop-i-preserved c = octet-put _ _ _ _ c.loop-i.invariant _ (omega arith) c.with_more.ensures

pub returns : goal.returns
returns c = octets-put _ _ _ _ c.loop-i.invariant c.loop-i-test.false
