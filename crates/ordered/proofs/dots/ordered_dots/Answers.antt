use Prim.Native.Nat.{ℕ, ◌+◌, ◌≤◌, ◌<◌}
use mathlib.Core.Path.{◌≡◌, refl, ap, ◌∙◌, sym, subst}
use native.Mathlib.Omega.{arith}
use lib.Dec.{leb}
use lib.ListN.{length, get_or}
use Rattle.rules.specs.Bits.{bit, appended}
use Rattle.rules.specs.Ordered.{bound, cell}
use Rattle.ordered.specs.Internal.Sides.{ordered_bit}
use Rattle.rules.proofs.DigitsAppended.{bit_le, one_more, appended-fits}
use Rattle.ordered.proofs.dots.ordered_dots.Goals as goal
use Rattle.ordered.proofs.dots.ordered_dots.Goals.{After-ordered_dot, At-loop-i}

low : (l : At-loop-i) → l.loop-i.digits < 65536
low l =
    let a = l.args in
    subst (λ (n : ℕ). n < 65536) (sym l.loop-i.invariant)
    (appended-fits a.begun (ordered_bit a.side a.table.now a.y a.column a.gray.now)
    (λ i. bit_le (leb (bound a.side (cell a.side a.table.now (a.column + i) a.y)) (get_or a.gray.now i 0)))
    (length a.gray.now) l.loop-i.i l.requires.packs l.loop-i.auto.i-end)

dot-is : (c : After-ordered_dot) →
    let a = c.args in
    c.ordered_dot.result ≡ ordered_bit a.side a.table.now a.y a.column a.gray.now c.loop-i.i
dot-is c =
    let a = c.args in
    c.ordered_dot.ensures
    ∙ ap (λ (n : ℕ). bit (leb (bound a.side n) (get_or a.gray.now c.loop-i.i 0))) c.cell_at-n.ensures

dot-le : (c : After-ordered_dot) → c.ordered_dot.result ≤ 1
dot-le c =
    let a = c.args in
    subst (λ (n : ℕ). n ≤ 1) (sym (dot-is c))
    (bit_le (leb (bound a.side (cell a.side a.table.now (a.column + c.loop-i.i) a.y)) (get_or a.gray.now c.loop-i.i 0)))

pub loop-i-init : goal.loop-i-init
unfolding appended
loop-i-init c = refl

pub overflow_mul-digits : goal.overflow_mul-digits
overflow_mul-digits c = omega (arith, low (goal.at.overflow_mul-digits c).At-loop-i)

pub overflow_add-digits : goal.overflow_add-digits
overflow_add-digits c = omega (arith, low (goal.at.overflow_add-digits c).At-loop-i, dot-le c)

pub loop-i-preserved : goal.loop-i-preserved
loop-i-preserved c =
    let a = c.args in
    one_more a.begun (ordered_bit a.side a.table.now a.y a.column a.gray.now) c.loop-i.i c.loop-i.digits
    c.ordered_dot.result c.loop-i.invariant (dot-is c)
