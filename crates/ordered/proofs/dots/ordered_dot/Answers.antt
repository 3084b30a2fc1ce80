use Rattle.std.proofs.Common.{sym, ap, ◌∙◌}
use Rattle.rules.specs.Bits.{bit}
use Rattle.rules.proofs.DigitsAppended.{bit_is}
use Rattle.ordered.proofs.OrderedNumbers.{product-form}
use Rattle.ordered.proofs.dots.ordered_dot.Goals as goal

pub returns : goal.returns
returns c = let a = c.args in bit_is _ _ c.from.ensures ∙ ap bit (sym (product-form a.side a.n a.gray c.requires))
