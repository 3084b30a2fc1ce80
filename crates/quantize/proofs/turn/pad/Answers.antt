use native.Mathlib.Nat.{mod-eq_of_lt, lt_trans}
use lib.Dec.{lit<}
use Rattle.rules.proofs.DigitsAppended.{shifted-lt}
use Rattle.quantize.proofs.turn.pad.Goals as goal

pub overflow_cast-result : goal.overflow_cast-result
overflow_cast-result c =
    let h = shifted-lt c.args.digits c.args.m c.requires.0 c.requires.1 in
    rw (mod-eq_of_lt {m = 4294967296} (lt_trans h (lit< tt))) (record { fits = h })
