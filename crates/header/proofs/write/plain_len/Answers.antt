use native.Mathlib.Omega.{arith}
use Rattle.mbi.proofs.Length.{bytes-five}
use Rattle.header.proofs.write.plain_len.Goals as goal

pub overflow_add-result : goal.overflow_add-result
overflow_add-result c = omega (arith, bytes-five c.args.width c.ranges.width.fits)

pub overflow_add-result-2 : goal.overflow_add-result-2
overflow_add-result-2 c = omega (arith, bytes-five c.args.width c.ranges.width.fits, bytes-five c.args.height c.ranges.height.fits)
