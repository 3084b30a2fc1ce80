use Rattle.std.proofs.Common.{sym}
use Rattle.ext_write.proofs.RecordsFlat.{flat-long}
use Rattle.ext_write.proofs.list.RefSliceParameterPairList.count.Goals as goal

pub returns-clause-counted : goal.returns-clause-counted
returns-clause-counted c = sym (flat-long c.args.self.now.now)
