use Rattle.ext_write.proofs.Begun.{octets-fit, octets-emitted}
use Rattle.ext_write.proofs.write.write_octets.Goals as goal

pub put_octets-requires : goal.put_octets-requires
put_octets-requires c = octets-fit c.args.text.now c.args.out.now _ c.in_ok-len.ensures c.if-out-len.false

pub returns : goal.returns
returns c = octets-emitted _ _ _ _ c.in_ok-len.ensures c.if-out-len.false c.put_octets.ensures
