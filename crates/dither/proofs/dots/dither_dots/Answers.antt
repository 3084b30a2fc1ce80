use Prim.Native.Nat.{ℕ, ◌+◌, ◌<◌}
use mathlib.Core.Path.{◌≡◌, ◌∙◌, sym, subst}
use native.Mathlib.Omega.{arith}
use lib.IntN.{sub_ℕ}
use lib.ListN.{length}
use mir.Syntax.{w16}
use mir.Val.{to_z, of_z}
use mir.ValLaws.{to_z-of_z}
use Rattle.rules.specs.Rule.{dither}
use Rattle.dither.specs.Internal.Kernels.{row_bit, carry_of}
use Rattle.rules.proofs.DigitsAppended.{appended-fits}
use Rattle.dither.proofs.DitherDotsLoop.{inv-start, inv-more, inv-end, inv-near, dot-le, row-bit-le}
use Rattle.dither.proofs.dots.dither_dots.Goals as goal
use Rattle.dither.proofs.dots.dither_dots.Goals.{At-loop-i}

low : (l : At-loop-i) → l.loop-i.digits < 65536
low l =
    let a = l.args in
    let f = row_bit dither a.start.width a.start.y a.start.column a.gray.now (carry_of a.near.corner a.work.now) in
    subst (λ (n : ℕ). n < 65536) (sym l.loop-i.invariant.digits_is)
    (appended-fits a.begun f (row-bit-le dither a.start.width a.start.y a.start.column a.gray.now _) (length a.gray.now) l.loop-i.i
    l.requires.0.packs l.loop-i.invariant.bound)

pub loop-i-init : goal.loop-i-init
loop-i-init c =
    let a = c.args in
    inv-start a.start.width a.start.y a.start.column a.gray.now a.begun a.near.corner a.work.now _ _ _ c.requires.1.left_is
    c.requires.1.corner_is c.requires.1.above_is

in-work : (l : At-loop-i) → l.loop-i.i < length l.args.gray.now
    → l.args.start.column + l.loop-i.i < length l.loop-i.work
in-work l h = omega (arith, l.requires.0.within, l.requires.0.room, l.loop-i.invariant.long)

pub overflow_mul-digits : goal.overflow_mul-digits
overflow_mul-digits c = omega (arith, low (goal.at.overflow_mul-digits c).At-loop-i)

pub overflow_add-digits : goal.overflow_add-digits
overflow_add-digits c = omega (arith, low (goal.at.overflow_add-digits c).At-loop-i, dot-le c.step-d.ensures)

pub loop-i-preserved : goal.loop-i-preserved
loop-i-preserved c =
    let a = c.args in
    let t = c.loop-i-test.true in
    let stored : to_z w16 (of_z w16 c.from_held.result) ≡ sub_ℕ c.step-d.result.rest 128 =
    to_z-of_z w16 _ (record { sfits = c.from_held.type_inv }) ∙ c.from_held.ensures in
    inv-more a.start.width a.start.y a.start.column a.gray.now a.begun a.near.corner a.work.now c.loop-i.work _ _ _ _ c.loop-i.i
    c.loop-i.invariant _ _ _
    (rw (c.reach-reached.ensures.is c.loop-i.work (a.start.column + c.loop-i.i + 1)) c.over-ahead.ensures)
    c.step-d.ensures
    _ stored t (in-work (goal.at.loop-i-preserved c).At-loop-i t)

pub returns : goal.returns
returns c =
    let a = c.args in
    let end = c.loop-i-test.false in
    let some = c.requires.0.some in
    let s = a.start in
    record {
      dots = inv-end s.width s.y s.column a.gray.now a.begun a.near.corner a.work.now _ _ _ _ _ _ c.loop-i.invariant end some;
      near = inv-near s.width s.y s.column a.gray.now a.begun a.near.corner a.work.now _ _ _ _ _ _ c.loop-i.invariant end some;
    }
