use Rattle.std.proofs.Common.{◌<◌, ◌∙◌, sym, ap, length, arith}
use borrow.Author.Tests.{eqb-true, eqb-false}
use Rattle.error.specs.Answer.{map}
use Rattle.ext_write.proofs.OctetsWritten.{octets-none, octets-bad, octets-length}
use Rattle.ext_write.proofs.write.check_octets.Goals as goal

pub returns-then-is_empty : goal.returns-then-is_empty
returns-then-is_empty c =
    rw c.new.ensures (sym (ap (map length) (octets-none _ (eqb-true _ _ (sym c.is_empty.ensures ∙ c.if-is_empty.true)))))

pub returns-then-text-i-ge128 : goal.returns-then-text-i-ge128
returns-then-text-i-ge128 c =
    let l = c.loop-i in
    rw c.new-then-text-i-ge128.ensures (sym (ap (map length) (octets-bad _ l.i (omega arith) l.invariant c.if-text-i-ge128.true)))

pub returns : goal.returns
returns c =
    let some : 0 < length c.args.text.now = omega (arith, eqb-false _ _ (sym c.is_empty.ensures ∙ c.if-is_empty.false)) in
    sym (octets-length _ some (λ k h. c.loop-i.invariant k (omega (arith, c.loop-i-test.false))))
